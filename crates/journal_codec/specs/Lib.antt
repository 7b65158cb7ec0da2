pub mod Roots
pub mod Entries
pub mod Fronts
pub mod Recorded
