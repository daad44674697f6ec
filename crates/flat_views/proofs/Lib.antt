pub mod Elements
pub mod Sound
pub mod Placed
pub mod Shown
