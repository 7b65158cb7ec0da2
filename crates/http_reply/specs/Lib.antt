pub mod Replies
pub mod Sent
