pub mod InnerSending
pub mod InnerMix
