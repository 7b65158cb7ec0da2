pub mod Tested
mod Compared
mod Grown
