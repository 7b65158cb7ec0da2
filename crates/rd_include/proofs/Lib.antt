mod Alike
mod Majors
pub mod Pages
