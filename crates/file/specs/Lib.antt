pub mod Format
pub mod Load
pub mod Write
pub mod Held
pub mod InnerParts
