pub mod Latest
pub mod ReadInfo
pub mod ReadTypes
