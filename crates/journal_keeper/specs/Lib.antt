pub mod Recorded
pub mod Standing
pub mod Stores
pub mod Went
