mod Clashing
pub mod Keyed
mod Pointwise
