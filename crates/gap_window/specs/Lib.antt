pub mod Gaps
pub mod Bridging
