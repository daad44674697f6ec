pub mod Joins
pub mod Extents
pub mod Places
pub mod Ranks
pub mod Rising
