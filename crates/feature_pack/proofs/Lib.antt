pub mod Frames
pub mod Runs
pub mod Leaves
pub mod Files
pub mod Plans
pub mod Writes
pub mod Stopping
pub mod Packing
