pub mod Said
pub mod ReadQuery
