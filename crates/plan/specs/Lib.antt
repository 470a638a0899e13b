pub mod Actions
pub mod Leave
