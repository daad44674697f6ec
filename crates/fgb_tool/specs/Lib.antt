pub mod Causes
pub mod Texts
pub mod Filtered
pub mod Runs
