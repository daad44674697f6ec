mod Framing
mod Filling
pub mod Going
pub mod Whole
mod Starting
mod Counting
