pub mod Valid
pub mod Settle
pub mod Settled
pub mod InnerDone
