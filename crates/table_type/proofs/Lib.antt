pub mod IdLaws
pub mod Starts
pub mod Laws
pub mod StartCases
