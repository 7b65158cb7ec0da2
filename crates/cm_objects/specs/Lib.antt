pub mod Pairs
pub mod IndexKeyFacts
pub mod Indexed
