pub mod Documents
pub mod Firsts
pub mod Found
pub mod Named
pub mod Retained
pub mod Rules
pub mod Wanted
