mod Changed
mod Entries
mod Others
