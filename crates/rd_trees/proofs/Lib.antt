mod Copies
mod DocumentTypes
mod Placing
mod Rows
mod Trees
