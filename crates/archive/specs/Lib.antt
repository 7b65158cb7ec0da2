pub mod Archives
pub mod Extents
