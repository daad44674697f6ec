mod Growing
mod Wholes
