mod Begun
mod Breaching
mod Kept
mod Pages
mod Registers
mod Stood
mod Steps
