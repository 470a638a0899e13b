pub mod Decimal
pub mod InnerPrints
