pub mod Made
pub mod Files
pub mod Queries
