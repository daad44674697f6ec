pub mod Quarters
pub mod Along
pub mod Shares
