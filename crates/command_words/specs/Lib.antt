pub mod Texts
pub mod Statuses
pub mod Causes
pub mod Words
pub mod Requests
pub mod Asking
