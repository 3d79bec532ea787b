pub mod Mending
pub mod Comings
pub mod Heard
pub mod PendingVersions
pub mod Reading
pub mod VersionFilters
pub mod Told
