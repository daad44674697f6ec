pub mod Causes
pub mod Conversions
pub mod Inputs
pub mod Steps
