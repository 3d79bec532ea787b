pub mod Sparing
pub mod Incoming
pub mod Exchanging
pub mod Lives
