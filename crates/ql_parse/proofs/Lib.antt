mod Depths
mod Wholes
pub mod Saying
