pub mod CreateDocumentFromSource
pub mod Templates
