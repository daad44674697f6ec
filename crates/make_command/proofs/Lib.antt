mod Around
mod Packing
mod Refusals
mod Requests
mod Sizes
mod Telling
