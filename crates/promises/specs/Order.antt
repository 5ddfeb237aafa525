-- The order of a table, the moves that calls are made of, and that each move keeps the order.
pub mod Sound
pub mod States
pub mod Room
pub mod Wakes
pub mod Chains
pub mod Books
pub mod Alike
pub mod NumberedKept
pub mod CountedKept
pub mod RaisedKept
pub mod Kept
