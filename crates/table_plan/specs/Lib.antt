pub mod InnerAsked
