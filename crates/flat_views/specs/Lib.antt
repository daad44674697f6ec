pub mod Buffers
pub mod Meters
pub mod TableVecs
pub mod Tables
pub mod Vectors
