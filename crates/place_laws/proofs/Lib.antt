pub mod Placing
pub mod Clearing
pub mod Numbered
