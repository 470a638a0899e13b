pub mod Called
pub mod Asks
