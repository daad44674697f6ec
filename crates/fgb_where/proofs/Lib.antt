mod Firsts
mod Numerals
mod Splitting
mod Tables
mod Refusing
pub mod Choosing
