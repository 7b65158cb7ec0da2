mod Defined
pub mod Ends
pub mod KeptUpdated
pub mod Put
pub mod Renamed
pub mod Updating
