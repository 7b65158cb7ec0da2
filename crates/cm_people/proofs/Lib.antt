pub mod Named
pub mod Keeping
mod Others
mod Staying
