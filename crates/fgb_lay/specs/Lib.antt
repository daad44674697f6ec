pub mod Laying
pub mod Plans
pub mod Puts
