pub mod Cells
pub mod Curve
