pub mod Causes
pub mod Lines
pub mod Spelling
pub mod Texts
pub mod Pages
pub mod Steps
pub mod Written
