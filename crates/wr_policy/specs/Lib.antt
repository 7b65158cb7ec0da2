pub mod Applied
pub mod ApplyPolicy
pub mod RemovePolicy
