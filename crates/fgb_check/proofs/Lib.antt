mod Beside
mod Declared
mod Indexed
mod Nodes
mod Slicing
mod Turns
mod Walking
