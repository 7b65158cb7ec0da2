pub mod Files
pub mod Lines
pub mod Expanding
pub mod Messages
