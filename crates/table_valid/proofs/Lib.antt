pub mod Nodes
pub mod Slots
pub mod Hops
