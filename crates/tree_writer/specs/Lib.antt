pub mod Packed
pub mod Pages
pub mod Rows
