pub mod Writing
pub mod Telling
pub mod Running
