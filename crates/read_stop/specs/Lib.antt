pub mod Stops
pub mod Asks
