pub mod Allowed
pub mod AppendContent
pub mod Changed
pub mod DeleteContent
pub mod SetContent
pub mod Wholes
