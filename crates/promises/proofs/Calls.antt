pub mod Walks
pub mod Exits
pub mod Refusals
pub mod Steps
