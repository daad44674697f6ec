pub mod Alls
pub mod Ordered
pub mod Leaves
pub mod Lengths
pub mod Numbers
pub mod CleanParts
pub mod Records
pub mod Points
mod Geometries
pub mod OwnBoxes
mod Pieces
mod Starts
mod Files
mod Packings
mod Same
