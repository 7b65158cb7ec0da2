pub mod Update
pub mod UpdateParts
