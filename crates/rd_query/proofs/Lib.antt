mod Above
mod Alike
mod Beside
mod Found
mod Pages
