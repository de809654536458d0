pub mod Answered
pub mod BuiltTexts
pub mod ImageWords
pub mod ImagesRebuilt
