pub mod Cases
pub mod CasesTold
pub mod Joins
pub mod Leaving
pub mod LeavingTold
pub mod Only
