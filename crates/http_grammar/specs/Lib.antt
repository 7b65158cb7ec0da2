pub mod Limits
pub mod Judged
pub mod Request
pub mod Fields
pub mod Chunks
pub mod First
