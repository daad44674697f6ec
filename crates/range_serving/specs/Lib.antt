pub mod Entries
pub mod Serving
