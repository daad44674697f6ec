pub mod Pieces
pub mod Deciding
pub mod Known
pub mod Passed
pub mod Founds
