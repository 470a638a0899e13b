-- The listed nodes as one set, and whether a set is a part of it. Definitions only. Assumes nothing.
use Rattle.std.specs.Prelude.{Bool, true, ℕ, eqb}
use Rattle.marks.specs.Marks.{gather, without}

-- the slots below n
unfoldable pub all_nodes : ℕ → ℕ
all_nodes n = gather n (λ s. true)

-- every member of the set is in the whole
abbrev pub is_part : ℕ → ℕ → Bool
is_part whole set = eqb (without set whole) 0
