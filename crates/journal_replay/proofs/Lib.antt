mod Shifted
mod Replaying
mod Starting
