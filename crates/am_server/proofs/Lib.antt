pub mod Resting
pub mod Sayings
pub mod Sendings
pub mod Steps
pub mod Calls
pub mod Fronts
mod Lived
pub mod Talking
