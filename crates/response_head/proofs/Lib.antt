pub mod Responding
