pub mod Covering
pub mod Keeping
pub mod Reading
pub mod Visiting
