pub mod Water
pub mod History
pub mod Claims
