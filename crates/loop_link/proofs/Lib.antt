pub mod Asking
pub mod Turns
pub mod FedSoFar
pub mod Pieces
