mod Anywhere
mod Copied
pub mod CheckIn
pub mod CheckOut
pub mod Commented
mod Joined
mod Defined
pub mod Making
