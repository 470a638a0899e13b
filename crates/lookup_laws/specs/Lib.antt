pub mod Journey
pub mod Fates
pub mod Claims
pub mod Pair
pub mod Carried
pub mod Joining
