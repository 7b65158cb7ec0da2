pub mod Begun
mod Going
mod Lines
