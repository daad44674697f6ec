pub mod Lists
pub mod Bridges
pub mod Windows
pub mod Pushing
pub mod Runs
pub mod Levels
pub mod Following
pub mod Behind
