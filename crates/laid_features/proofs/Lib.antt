pub mod Framing
mod Laying
