pub mod CreateItem
pub mod CreatePolicy
pub mod Making
