pub mod Items
pub mod Lines
pub mod Made
pub mod Policies
