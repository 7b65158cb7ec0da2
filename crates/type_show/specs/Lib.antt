pub mod ReadBack
pub mod Showing
