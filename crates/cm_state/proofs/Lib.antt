mod Among
mod Looked
mod Noted
pub mod Numbers
mod Stands
