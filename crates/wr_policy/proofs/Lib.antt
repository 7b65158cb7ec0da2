pub mod Applying
pub mod Removing
