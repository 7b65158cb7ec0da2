pub mod Filters
pub mod Ones
pub mod Tied
pub mod Lefts
pub mod Leaving
pub mod Whole
