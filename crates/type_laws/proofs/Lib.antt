pub mod Bases
pub mod Changed
pub mod Created
pub mod Definitions
pub mod Deleted
pub mod Likeness
pub mod Placing
pub mod Retyped
