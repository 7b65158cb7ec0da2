pub mod Bounds
mod Differ
mod Four
pub mod Grouped
pub mod Keeps
mod Two
pub mod Placed
