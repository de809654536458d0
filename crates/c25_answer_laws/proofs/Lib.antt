mod AnswersExist
mod AnswersAlike
mod ImageSources
mod ImagesBuilt
mod Refusals
mod SourceScripts
