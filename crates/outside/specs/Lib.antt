pub mod Outside
pub mod Memory
pub mod Clocks
pub mod Hosts
