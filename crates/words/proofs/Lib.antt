pub mod Codec
pub mod Puts
