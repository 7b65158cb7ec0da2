pub mod Cuts
pub mod Signs
pub mod Reading
pub mod Laws
