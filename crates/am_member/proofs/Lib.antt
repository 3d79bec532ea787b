pub mod Finished
pub mod Making
pub mod Greeted
pub mod Names
mod Lives
mod Connections
mod Replied
mod Exchanging
