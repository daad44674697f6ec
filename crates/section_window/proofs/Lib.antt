pub mod Few
pub mod Parts
pub mod Reading
pub mod Showing
