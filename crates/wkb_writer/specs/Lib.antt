pub mod Commons
pub mod Dimensions
pub mod Laid
pub mod Levels
pub mod Refusals
pub mod RowsShown
pub mod Wkb
