pub mod Single
pub mod Written
pub mod Behind
pub mod Begun
pub mod Left
