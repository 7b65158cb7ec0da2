pub mod Loads
pub mod Many
pub mod Once
pub mod Runs
pub mod Schedules
pub mod Scripting
pub mod Starts
