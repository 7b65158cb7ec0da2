pub mod Finds
pub mod Listing
mod Rows
