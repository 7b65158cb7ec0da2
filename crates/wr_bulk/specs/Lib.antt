pub mod BulkUpdate
pub mod Parts
