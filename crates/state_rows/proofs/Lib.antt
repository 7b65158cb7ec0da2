mod RisingLists
mod Sets
mod Membership
mod FiledIn
mod OfTypes
pub mod Parents
mod Tested
