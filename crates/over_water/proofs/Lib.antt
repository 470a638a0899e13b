pub mod Unique
pub mod Signed
pub mod Places
