pub mod Trip
pub mod Print
pub mod List
