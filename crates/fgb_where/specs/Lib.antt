pub mod Words
pub mod Values
pub mod Columns
pub mod Binding
pub mod Holding
pub mod Views
pub mod Filtering
pub mod Keeping
