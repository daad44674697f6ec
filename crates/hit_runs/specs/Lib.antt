pub mod Leaves
pub mod Laid
pub mod Fetching
pub mod Runs
