-- Every call as refusals in order and a chain of moves.
pub mod Shape
pub mod Walks
pub mod RefusalTable
pub mod SomeSlot
pub mod Refusals
pub mod Ended
