mod Digits
mod Reading
mod Labelled
mod Ordered
pub mod Adding
mod Again
mod Bytes
mod Noticed
pub mod Decimals
pub mod Faults
pub mod AskedMore
pub mod Whole
pub mod EntryRows
pub mod Told
pub mod Same
pub mod Kept
pub mod Vectors
pub mod Pairs
