pub mod OnReply
