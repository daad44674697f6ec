pub mod Fits
pub mod Kinds
pub mod Lists
pub mod Views
pub mod Weights
