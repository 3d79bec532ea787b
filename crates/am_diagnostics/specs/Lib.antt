pub mod Statuses
pub mod Advances
