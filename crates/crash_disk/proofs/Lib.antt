mod Ends
mod Tearing
