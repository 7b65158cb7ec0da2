pub mod Bodies
pub mod Build
pub mod Keys
pub mod Shown
pub mod TokenLaws
pub mod Tokens
pub mod Values
