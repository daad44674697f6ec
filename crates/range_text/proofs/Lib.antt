pub mod Digits
pub mod Cuts
pub mod Words
pub mod Forms
pub mod Written
