pub mod Lowered
pub mod Settles
