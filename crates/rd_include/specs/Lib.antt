pub mod Listed
pub mod ShowChildren
pub mod ShowObject
pub mod ShowParents
pub mod ShowVersions
