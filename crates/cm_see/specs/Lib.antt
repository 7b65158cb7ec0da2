pub mod Ends
pub mod Addressed
pub mod Seen
pub mod Shown
pub mod System
