pub mod ReadCheckedOut
pub mod ReadTree
pub mod Walks
