pub mod Standing
pub mod Going
mod Handing
