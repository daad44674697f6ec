pub mod Stopping
pub mod Asking
