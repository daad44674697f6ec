pub mod Bridges
pub mod Near
pub mod Reaching
pub mod Within
