pub mod EightBytes
pub mod ItemLaws
pub mod Utf8
pub mod Wholes
pub mod PayloadLaws
