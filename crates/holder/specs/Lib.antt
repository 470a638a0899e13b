pub mod Holder
pub mod Claims
