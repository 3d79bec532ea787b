mod Played
mod Reported
mod Viewed
mod Stopping
