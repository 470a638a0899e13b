pub mod Unique
pub mod Counts
pub mod Cases
