pub mod Infos
pub mod Shown
pub mod Types
