pub mod Responses
pub mod Read
