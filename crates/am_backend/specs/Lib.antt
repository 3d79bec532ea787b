pub mod CommitStates
pub mod Outbound
pub mod Stores
