pub mod CrashDisks
pub mod Leaving
