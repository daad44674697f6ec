pub mod Hits
pub mod Runs
pub mod Sought
pub mod Following
