pub mod Entries
pub mod Tested
