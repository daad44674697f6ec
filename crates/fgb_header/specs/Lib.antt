pub mod Groups
pub mod Parts
pub mod Views
pub mod GroupViews
