pub mod InnerAlone
pub mod InnerNodes
