mod Placed
mod Rising
