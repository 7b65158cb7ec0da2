pub mod Entries
pub mod Filter
pub mod Index
pub mod Pairs
pub mod Properties
pub mod Read
pub mod Single
