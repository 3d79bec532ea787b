-- Reports in JSON.
pub mod Values
pub mod Views
pub mod Groups
pub mod Written
