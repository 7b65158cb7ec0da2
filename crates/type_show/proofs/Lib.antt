pub mod AskedProps
pub mod AskedType
pub mod Depths
pub mod MadeBelow
pub mod Putting
pub mod ShownValues
pub mod TextAgain
