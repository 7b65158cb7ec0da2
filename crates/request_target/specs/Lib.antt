pub mod Form
pub mod Path
pub mod Targets
