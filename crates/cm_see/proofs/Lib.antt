mod Children
mod Ends
mod Paths
mod Lists
pub mod Answers
pub mod SeenLists
pub mod Looks
pub mod Objects
pub mod SeenPaths
pub mod SeenShown
pub mod Worlds
