pub mod VectorFields
pub mod Fitting
pub mod ReadLists
pub mod OwnLevel
mod Levels
mod OwnType
mod Showing
pub mod OwnBoxes
pub mod BoxRows
pub mod OwnNumbers
pub mod OwnShapes
pub mod ViewLists
pub mod Light
