-- What a debugger answers to the commands of a script.
pub mod Debugger
pub mod Texts
