pub mod Leading
pub mod Mentioned
pub mod Orders
pub mod Runs
