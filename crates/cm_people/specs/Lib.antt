pub mod Begun
pub mod Adopted
