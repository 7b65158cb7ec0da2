pub mod Blanks
pub mod Params
pub mod Steps
