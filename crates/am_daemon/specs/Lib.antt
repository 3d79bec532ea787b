pub mod Accounts
pub mod Calling
pub mod Histories
pub mod Members
pub mod Offers
pub mod Sending
