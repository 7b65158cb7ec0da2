pub mod Shifting
pub mod Recorded
pub mod Replayed
pub mod OneMore
pub mod Starts
