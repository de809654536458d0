mod Cuts
mod Digits
mod Last
mod Mapped
mod Readers
mod Spelled
mod Steady
mod Steps
