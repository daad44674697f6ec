pub mod Receipts
pub mod Links
pub mod Turns
