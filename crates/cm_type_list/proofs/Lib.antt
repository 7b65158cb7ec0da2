mod Firsting
mod Looping
