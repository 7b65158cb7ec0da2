pub mod Lists
pub mod Judged
pub mod Heads
pub mod OneBody
pub mod KeptBody
pub mod OneFront
pub mod NeverCut
