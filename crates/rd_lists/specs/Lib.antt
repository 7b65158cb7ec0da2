pub mod Folders
pub mod Listed
pub mod ReadParent
pub mod Versions
