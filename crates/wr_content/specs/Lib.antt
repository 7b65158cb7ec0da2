pub mod AppendContent
pub mod Changed
pub mod DeleteContent
pub mod Document
pub mod SetContent
