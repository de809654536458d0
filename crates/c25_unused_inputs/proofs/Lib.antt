mod Below
mod Made
mod Off
mod Seen
mod Taken
