pub mod Answered
pub mod Keeping
pub mod Values
pub mod Visiting
