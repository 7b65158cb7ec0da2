pub mod Depths
pub mod Filings
pub mod Places
pub mod Trees
