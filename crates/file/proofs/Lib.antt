pub mod Rows
pub mod Told
pub mod File
pub mod Back
pub mod Exactly
pub mod Theorems
pub mod Replies
pub mod FileCases
