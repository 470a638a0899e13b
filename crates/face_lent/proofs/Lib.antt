pub mod Unique
pub mod Kept
pub mod Past
pub mod Laws
pub mod Cases
