pub mod AddToFolder
pub mod Filing
pub mod MoveObject
pub mod RemoveFromFolder
