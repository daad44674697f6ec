pub mod Owned
pub mod Walks
