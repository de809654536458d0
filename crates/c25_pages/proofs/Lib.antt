pub mod Found
pub mod Inductively
pub mod Flows
pub mod Order
pub mod Ascending
pub mod Savings
pub mod Words
