pub mod Among
mod Filing
pub mod Rising
pub mod Seen
