pub mod Tables
pub mod Headers
pub mod Properties
pub mod Paths
pub mod Weights
pub mod Features
pub mod Shapes
