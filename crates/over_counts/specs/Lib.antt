pub mod InnerWalk
pub mod Contract
