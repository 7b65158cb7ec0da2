pub mod Holding
pub mod Named
pub mod Planning
pub mod Rowing
pub mod Sets
pub mod Steps
