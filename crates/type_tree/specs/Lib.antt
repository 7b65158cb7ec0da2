pub mod Groups
pub mod Trees
