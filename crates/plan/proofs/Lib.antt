pub mod Small
pub mod ActionCases
pub mod LeaveCases
