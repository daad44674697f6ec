pub mod Cut
pub mod Growing
pub mod Levels
pub mod Shapes
