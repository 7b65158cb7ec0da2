pub mod Alike
mod Applied
pub mod Listed
pub mod Related
