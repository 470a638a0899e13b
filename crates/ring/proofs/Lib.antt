pub mod Cases
pub mod Falls
pub mod Order
pub mod Cover
pub mod Nearest
pub mod Width
