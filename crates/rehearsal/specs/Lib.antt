pub mod Rehearsal
pub mod Claims
