pub mod Limiting
pub mod Following
