pub mod Wholes
pub mod Texts
