pub mod Digits
pub mod Exact
pub mod Order
pub mod Spelling
pub mod Fraction
pub mod Bound
pub mod Parts
pub mod Corners
