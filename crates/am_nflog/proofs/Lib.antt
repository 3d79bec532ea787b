pub mod Counts
pub mod Lists
pub mod Orders
pub mod Packs
pub mod ReadWhole
pub mod Spelling
