pub mod Included
pub mod Pages
pub mod Rows
pub mod Trees
