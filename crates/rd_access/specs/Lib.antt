pub mod Grouped
pub mod ReadAcl
pub mod ReadPolicies
