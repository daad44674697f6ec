pub mod Layout
pub mod Promises
pub mod Rules
