mod Checking
mod Packing
mod Running
mod Filtering
mod Converting
mod Making
