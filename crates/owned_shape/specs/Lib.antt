pub mod Codes
pub mod Depths
pub mod ListsShown
pub mod Owned
pub mod Puts
pub mod Records
