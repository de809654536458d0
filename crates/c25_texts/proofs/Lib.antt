pub mod FourDigits
pub mod Lists
