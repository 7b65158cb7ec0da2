pub mod CheckIn
pub mod CheckOut
