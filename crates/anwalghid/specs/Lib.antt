pub mod Exports
pub mod Kept
