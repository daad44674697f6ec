pub mod OwnedColumn
pub mod OwnedCrs
pub mod OwnedHeader
pub mod Puts
