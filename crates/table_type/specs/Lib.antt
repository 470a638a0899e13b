pub mod Table
pub mod Start
