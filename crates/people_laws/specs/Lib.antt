pub mod Peopled
