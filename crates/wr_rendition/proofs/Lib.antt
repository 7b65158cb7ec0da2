pub mod Added
pub mod Kept
pub mod Parts
