pub mod Connections
pub mod Sending
