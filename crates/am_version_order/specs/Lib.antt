pub mod Heads
pub mod Moments
pub mod Versions
