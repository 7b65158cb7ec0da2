pub mod Actions
pub mod Changes
pub mod Left
pub mod Renditions
pub mod Updated
