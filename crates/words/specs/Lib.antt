pub mod Bytes
pub mod InnerPut
