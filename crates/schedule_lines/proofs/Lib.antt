mod Fronts
mod Kept
mod Names
mod Pieces
mod Standing
mod Words
