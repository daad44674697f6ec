pub mod Wanted
pub mod Searches
pub mod Descent
pub mod Sought
