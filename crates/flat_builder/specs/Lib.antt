pub mod Blanks
pub mod Codes
pub mod Fields
pub mod Laying
pub mod Rows
pub mod Shown
pub mod Sizes
pub mod Trees
