pub mod Passing
pub mod Kept
pub mod Found
pub mod Steps
pub mod Proved
pub mod Cases
