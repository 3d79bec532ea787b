pub mod Drives
pub mod Hears
pub mod Histories
pub mod Moves
mod Passing
pub mod Peering
mod Sends
