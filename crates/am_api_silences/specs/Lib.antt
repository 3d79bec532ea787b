pub mod Filters
pub mod Events
pub mod Table
pub mod ListFilters
pub mod Replies
pub mod ReplyBuilder
pub mod Answers
pub mod Serving
