pub mod Asks
pub mod Looped
