mod Pages
pub mod Visible
