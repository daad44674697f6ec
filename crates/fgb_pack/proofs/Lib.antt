pub mod Orders
pub mod Leaves
pub mod Rooms
pub mod PlansOfFiles
pub mod Stopping
pub mod Packing
pub mod Writing
