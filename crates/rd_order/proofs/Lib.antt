pub mod Alike
mod Keys
mod Listed
mod Rows
mod Sorting
