pub mod AddRendition
