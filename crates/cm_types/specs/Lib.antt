pub mod BaseTypes
pub mod Changes
pub mod Properties
pub mod Sound
pub mod Types
