pub mod Numbers
pub mod Board
pub mod Seats
pub mod Steps
pub mod Words
