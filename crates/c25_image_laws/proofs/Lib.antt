mod Marked
mod Fetched
mod Agreeing
mod FirstStates
