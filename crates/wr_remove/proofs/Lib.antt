pub mod Cancelled
pub mod Deleted
mod Entries
pub mod Free
