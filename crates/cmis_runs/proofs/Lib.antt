pub mod AllKept
pub mod Asked
pub mod Failed
pub mod Moments
pub mod Scripts
mod Making
mod Asking
