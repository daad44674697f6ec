pub mod Composing
pub mod Inputs
pub mod LaidValues
pub mod ReadInputs
pub mod Stopping
pub mod Turning
pub mod WrittenInputs
