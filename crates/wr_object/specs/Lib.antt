pub mod CreateDocument
pub mod CreateFolder
