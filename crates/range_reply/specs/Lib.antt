pub mod Spelled
pub mod Replies
pub mod Heads
pub mod Parts
pub mod Written
