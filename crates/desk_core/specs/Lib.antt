pub mod Interleaving
pub mod Holds
pub mod Steps
