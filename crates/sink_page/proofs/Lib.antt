mod Framing
pub mod Pages
