mod Lists
mod Settling
mod Noting
mod Crossing
mod Ending
mod Taking
