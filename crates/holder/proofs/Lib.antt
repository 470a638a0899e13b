pub mod Cover
pub mod Few
pub mod Beside
pub mod Answers
pub mod Proved
pub mod Cases
