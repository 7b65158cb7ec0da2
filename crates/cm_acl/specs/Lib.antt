pub mod Acl
pub mod Keys
