mod Crossed
mod Holed
mod Opened
mod Places
mod Summed
mod Tried
