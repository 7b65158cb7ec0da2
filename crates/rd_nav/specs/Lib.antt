pub mod ReadChildren
pub mod ReadObject
