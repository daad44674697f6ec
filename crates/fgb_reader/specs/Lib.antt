pub mod Requests
pub mod Starts
pub mod Filling
pub mod Reading
pub mod Tallies
