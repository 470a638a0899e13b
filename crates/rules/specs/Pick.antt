-- The best slot of a set: nearest to a key, or of least or greatest Fall. Definitions only; their laws are in crate rules. Assumes nothing.
use Rattle.std.specs.Prelude.{Bool, cond, ℕ, zero, suc, ltb, get_or, Some, None}
use Rattle.ring.specs.Distance.{fall_of, nearer}
use Rattle.marks.specs.Marks.{has, Found}
use Rattle.rules.specs.Names.{Slot, Marks, Id, Ids, Key}
use Rattle.rules.specs.declared.Way.{Way}
use Rattle.rules.specs.declared.Way.TheVariants.{Near, Up, Down, FarUp, FarDown}

abbrev pub id_at : Ids → Slot → Id
id_at ids s = get_or ids s 0

-- slot s comes before slot b: by nearness to k; by the least Fall above k or below k; by the greatest Fall above k or below k
abbrev pub ahead_of : Way → ℕ → Key → Ids → Slot → Slot → Bool
ahead_of Near N k ids s b = nearer N k (id_at ids s) (id_at ids b)
ahead_of Up N k ids s b = ltb (fall_of N (id_at ids s) k) (fall_of N (id_at ids b) k)
ahead_of Down N k ids s b = ltb (fall_of N k (id_at ids s)) (fall_of N k (id_at ids b))
ahead_of FarUp N k ids s b = ltb (fall_of N (id_at ids b) k) (fall_of N (id_at ids s) k)
ahead_of FarDown N k ids s b = ltb (fall_of N k (id_at ids b)) (fall_of N k (id_at ids s))

-- slot s in the place of what was found before, where it comes before it
abbrev pub better_of : (Slot → Slot → Bool) → Found → Slot → Found
better_of ahead (Some b) s = cond (ahead s b) (Some s) (Some b)
better_of ahead None s = Some s

-- of the slots below n that pass a test, the one that comes before all others
unfoldable pub best : (Slot → Slot → Bool) → (Slot → Bool) → ℕ → Found
best ahead ok zero = None
best ahead ok (suc n) = cond (ok n) (better_of ahead (best ahead ok n) n) (best ahead ok n)

-- the best node of a set
abbrev pub best_of : Way → ℕ → Key → Ids → Marks → Found
best_of w N k ids set = best (ahead_of w N k ids) (has set) 64
