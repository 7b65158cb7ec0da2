pub mod CreateFolder
pub mod CreatedDocument
pub mod Made
pub mod MadeDocument
