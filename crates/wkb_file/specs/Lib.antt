pub mod Broken
pub mod InTurn
pub mod Reads
pub mod Spellings
pub mod Values
