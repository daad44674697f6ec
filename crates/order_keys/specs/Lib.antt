pub mod Keys
pub mod Boxes
pub mod Words
