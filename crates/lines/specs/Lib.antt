pub mod Words
pub mod Kinds
pub mod Values
pub mod Grammar
pub mod Meaning
