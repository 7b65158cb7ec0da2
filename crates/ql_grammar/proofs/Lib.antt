pub mod Apart
pub mod Facts
pub mod Levels
pub mod Exits
mod Unescapes
mod Moments
