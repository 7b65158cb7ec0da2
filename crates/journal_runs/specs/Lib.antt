pub mod Begins
pub mod Leaves
pub mod Ends
