mod Applied
mod Grouping
