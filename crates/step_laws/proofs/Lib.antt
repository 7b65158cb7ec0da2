pub mod Moments
pub mod Replays
pub mod Seen
pub mod Steps
