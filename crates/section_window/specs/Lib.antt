pub mod Pieces
pub mod Window
