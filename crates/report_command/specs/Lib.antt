pub mod Feeds
pub mod Writes
pub mod Reports
