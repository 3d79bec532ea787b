pub mod Walked
mod Joined
pub mod Cuts
pub mod Numbered
pub mod Summed
