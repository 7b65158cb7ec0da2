mod Totals
mod Outcomes
mod Lexed
pub mod Sayings
