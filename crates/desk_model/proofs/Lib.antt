pub mod Replays
pub mod OwnEntries
pub mod Passes
