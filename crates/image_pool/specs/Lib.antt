pub mod InnerTurns
