pub mod Ranks
pub mod Weights
