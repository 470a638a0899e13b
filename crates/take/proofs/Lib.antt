pub mod Small
pub mod RouteCases
pub mod ProbeCases
pub mod LeaseCases
