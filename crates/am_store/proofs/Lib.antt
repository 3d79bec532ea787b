mod Stops
mod BlockLemmas
mod Calls
mod Crash
mod Crashes
mod Kept
mod Moments
mod ReadingLemmas
mod StandInBlocks
mod RewriteCrashes
mod RewriteRows
mod ReadRows
mod Outlasting
mod RewriteOutlasting
mod Parting
mod PartingStops
mod Histories
mod Rewrites
mod UnsyncedSaves
pub mod Appended
pub mod Joining
pub mod ReadBatches
pub mod Taken
pub mod Together
