pub mod Talk
pub mod Places
pub mod WholeLines
pub mod Rounds
pub mod Progress
pub mod Turns
