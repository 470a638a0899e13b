pub mod Order
pub mod Claims
