pub mod Core
pub mod Pieces
pub mod Paths
pub mod Serving
pub mod Sending
