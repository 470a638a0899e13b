-- A run of bytes written into a buffer from a place on: what every writer of this crate promises its callers. Definitions only.
-- Assumes nothing.
use Rattle.std.specs.Prelude.{◌≡◌, List, ◌++◌, ℕ, ◌+◌, ◌≤◌, length, take, drop}

-- the bytes vs, as many as size, stand in the buffer from place at on, and there was room; the rest is as before, and next is the place
-- behind them
pub record Put (size : ℕ) (buf : List ℕ) (at : ℕ) (vs : List ℕ) (next : ℕ) (new : List ℕ) : Type 0 where
  pub inside : at + size ≤ length buf
  pub next-is : next ≡ at + size
  pub sized : length vs ≡ size
  pub new_is : new ≡ (take at buf ++ vs) ++ drop (at + size) buf
