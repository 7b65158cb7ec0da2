pub mod Lists
pub mod Relations
pub mod Laws
pub mod Wholes
pub mod Tellings
pub mod Carried
pub mod Within
