pub mod Answers
pub mod Needed
pub mod Visited
