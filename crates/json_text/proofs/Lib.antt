pub mod Ordered
pub mod Whole
