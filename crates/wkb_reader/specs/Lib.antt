pub mod Broken
pub mod Cursors
pub mod Gathered
pub mod Heads
pub mod Refusals
