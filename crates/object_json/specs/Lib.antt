pub mod Access
pub mod Lists
pub mod Objects
pub mod Pages
pub mod Sent
