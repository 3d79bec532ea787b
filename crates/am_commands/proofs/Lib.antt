pub mod ReadSources
pub mod Folds
pub mod Found
pub mod Stopping
pub mod RowStops
pub mod Plainly
pub mod Zips
pub mod Sendings
