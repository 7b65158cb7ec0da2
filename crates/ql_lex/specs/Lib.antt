pub mod Words
pub mod Lexes
pub mod Steps
