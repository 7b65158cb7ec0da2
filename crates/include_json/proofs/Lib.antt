mod Beside
mod Deeper
