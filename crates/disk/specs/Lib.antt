pub mod Disks
pub mod Crashes
pub mod Calls
pub mod Joining
