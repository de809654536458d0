pub mod Beside
pub mod First
pub mod Lacked
pub mod More
pub mod Others
pub mod Spanned
pub mod Twice
pub mod Usable
