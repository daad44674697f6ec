pub mod Entries
pub mod Visits
pub mod Lent
pub mod Stops
