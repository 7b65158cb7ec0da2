pub mod Filters
pub mod Weight
