pub mod Lies
pub mod Trees
