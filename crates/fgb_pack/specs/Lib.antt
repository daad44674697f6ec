pub mod Causes
pub mod Packs
pub mod Plans
