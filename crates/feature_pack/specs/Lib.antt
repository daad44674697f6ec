pub mod Packs
pub mod Pieces
pub mod Plans
