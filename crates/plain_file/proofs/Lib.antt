pub mod Fronts
pub mod Plain
mod Writable
