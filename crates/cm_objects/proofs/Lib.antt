mod Pairing
mod Indexing
mod Ends
mod Rising
mod Sameness
