pub mod Moments
pub mod Numbers
pub mod Patterns
pub mod Tables
pub mod Binding
