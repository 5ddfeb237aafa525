pub mod Open
pub mod Replies
pub mod Recorded
