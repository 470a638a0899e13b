pub mod Limits
pub mod Unheld
pub mod GapUnheld
pub mod Only
