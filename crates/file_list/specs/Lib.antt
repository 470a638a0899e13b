pub mod InnerLine
pub mod InnerFollow
pub mod InnerLoaded
