pub mod Preorder
pub mod Judging
pub mod Reading
pub mod Answering
pub mod Scanning
pub mod Searching
pub mod Giving
