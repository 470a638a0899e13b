pub mod InnerAnswers
pub mod InnerSlots
