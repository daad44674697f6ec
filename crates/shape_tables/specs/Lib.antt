pub mod Records
pub mod Laying
