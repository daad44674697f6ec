pub mod Pages
pub mod Writing
pub mod Answering
pub mod Spelled
