pub mod Keyed
pub mod Ordered
