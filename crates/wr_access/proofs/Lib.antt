pub mod Allowed
pub mod Changed
pub mod Permits
