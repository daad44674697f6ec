mod Wording
mod Hosts
mod Finding
pub mod Telling
pub mod Meanings
