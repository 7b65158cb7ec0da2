pub mod Alike
pub mod Hosting
pub mod Kinds
