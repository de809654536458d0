pub mod Appended
pub mod ByteLaws
pub mod Entries
pub mod Filled
pub mod RomLaws
