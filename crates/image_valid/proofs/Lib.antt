pub mod Records
pub mod Ends
pub mod Unique
pub mod Loads
