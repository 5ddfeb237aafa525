pub mod Alike
pub mod QueuedKept
pub mod TidyKept
pub mod AsleepKept
pub mod Kept
