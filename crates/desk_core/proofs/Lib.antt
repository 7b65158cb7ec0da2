pub mod Holdings
pub mod Runs
pub mod CoreSteps
