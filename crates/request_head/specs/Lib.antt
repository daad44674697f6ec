pub mod Found
pub mod Requests
pub mod Read
