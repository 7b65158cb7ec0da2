pub mod Lines
pub mod Marks
pub mod Split
pub mod Reading
pub mod Spans
pub mod Heads
pub mod Kinds
pub mod Parts
