mod Staying
mod Writing
mod Replays
