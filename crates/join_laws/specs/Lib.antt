pub mod Clauses
pub mod Safe
pub mod Claims
