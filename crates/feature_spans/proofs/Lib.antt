pub mod Copying
pub mod Surveying
