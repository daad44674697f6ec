pub mod Grammar
pub mod Rows
pub mod ShapesShown
pub mod Wkb
