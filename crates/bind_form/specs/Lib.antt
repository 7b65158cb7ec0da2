pub mod Forms
pub mod Media
