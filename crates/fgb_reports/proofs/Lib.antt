mod Joins
mod Turns
