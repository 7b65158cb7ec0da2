pub mod Found
pub mod Candidates
pub mod Planned
