pub mod CancelCheckOut
pub mod Delete
