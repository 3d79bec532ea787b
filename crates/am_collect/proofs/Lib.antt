pub mod Greatest
pub mod Fits
pub mod Histories
pub mod Runs
