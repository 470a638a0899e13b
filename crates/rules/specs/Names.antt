-- What the numbers of the definitions are. Each is a number, or a list of numbers, and nothing more: a name says how it is read. Assumes nothing.
use Rattle.std.specs.Prelude.{List, ℕ}
pub use Rattle.marks.specs.Marks.{Slot, Marks}

-- ids are below 2^M
abbrev pub Id : Type 0
Id = ℕ

-- strictly rising by slot (slots 0 to n - 1)
abbrev pub Ids : Type 0
Ids = List Id

-- a key is any number below 2^M
abbrev pub Key : Type 0
Key = ℕ

-- 1 Lookup to 8 BroadcastLSet
abbrev pub Kind : Type 0
Kind = ℕ

-- T-07: the message record gets a hop number
abbrev pub Hops : Type 0
Hops = ℕ

-- in pool order, from 0
abbrev pub Place : Type 0
Place = ℕ
