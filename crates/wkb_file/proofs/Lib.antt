mod Following
mod Places
mod Reading
mod Spelled
