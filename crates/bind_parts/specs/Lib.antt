pub mod Askings
pub mod Parts
