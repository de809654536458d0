mod Below
mod Ended
mod Found
mod Stood
