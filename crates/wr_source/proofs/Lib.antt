pub mod Created
pub mod Found
pub mod Sourced
