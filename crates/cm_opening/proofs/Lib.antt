pub mod BaseTypes
