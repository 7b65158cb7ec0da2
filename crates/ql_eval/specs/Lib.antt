pub mod Truths
pub mod Likes
pub mod Leads
pub mod Conditions
pub mod Order
