pub mod Best
pub mod Closest
pub mod Steps
pub mod Leaf
pub mod Hops
pub mod Complete
pub mod Capped
