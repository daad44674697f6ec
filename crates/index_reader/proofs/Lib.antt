pub mod Order
pub mod Stored
mod Sound
pub mod Stops
pub mod Standing
mod Going
