pub mod Laid
pub mod AskedCases
pub mod Begun
pub mod CallsCases
