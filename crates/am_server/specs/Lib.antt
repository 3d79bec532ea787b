pub mod Talks
pub mod Answered
pub mod Waiting
pub mod Calls
pub mod MemberService
pub mod Talking
pub mod Transfers
