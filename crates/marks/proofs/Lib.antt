pub mod Bools
pub mod Bits
pub mod Slots
pub mod Laws
pub mod Machine
pub mod Cases
