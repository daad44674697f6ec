pub mod Nexts
pub mod Cuts
pub mod Roads
pub mod AnyPieces
pub mod Talks
pub mod Served
