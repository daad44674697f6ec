mod Rows
pub mod Held
pub mod Unbroken
mod Turns
mod Rings
pub mod Vectors
mod Types
mod Levels
mod PartLists
mod Shapes
pub mod Layables
pub mod Buffers
