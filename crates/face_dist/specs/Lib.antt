pub mod Dist
