-- A text written into a buffer from a place on: what every printer promises its callers. Definitions only. Assumes nothing.
use Rattle.std.specs.Prelude.{List, ℕ, length}
use Rattle.words.specs.InnerPut.{Put}

-- the text stands in the buffer from place at on, and there was room; the rest is as before, and next is the place behind it
abbrev pub Prints : List ℕ → ℕ → List ℕ → ℕ → List ℕ → Type 0
Prints buf at text next new = Put (length text) buf at text next new
