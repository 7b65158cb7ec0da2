pub mod CreateType
pub mod DeleteType
pub mod Retyped
pub mod UpdateType
