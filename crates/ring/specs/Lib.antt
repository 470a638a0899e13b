pub mod Distance
pub mod InnerRank
