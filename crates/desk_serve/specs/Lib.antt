pub mod Sessions
pub mod Keeping
