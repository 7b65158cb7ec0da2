pub mod KeptEnds
pub mod Relationships
