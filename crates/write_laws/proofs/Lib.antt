pub mod Contents
pub mod Moments
pub mod Ordered
pub mod Passing
pub mod Trees
pub mod Updates
