pub mod Bytes
pub mod Faults
pub mod Groups
pub mod Runs
pub mod Trees
