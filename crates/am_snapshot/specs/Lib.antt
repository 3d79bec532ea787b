pub mod Encodings
pub mod Writing
pub mod Saving
pub mod Loads
pub mod Folds
pub mod Pieces
pub mod Sorted
