pub mod Changing
pub mod Lines
pub mod Making
pub mod Numbers
pub mod Removing
pub mod Staying
