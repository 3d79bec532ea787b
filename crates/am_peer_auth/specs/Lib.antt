pub mod Macs
pub mod Sequences
pub mod Seals
pub mod Summings
pub mod Openings
pub mod Authenticators
