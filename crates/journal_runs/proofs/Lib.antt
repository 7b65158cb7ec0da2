mod Begun
mod Ending
