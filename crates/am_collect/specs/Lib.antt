pub mod Kept
pub mod Events
pub mod Calm
pub mod Keepers
