pub mod Search
pub mod Appends
pub mod Passes
pub mod Sends
