mod Places
mod Stopped
