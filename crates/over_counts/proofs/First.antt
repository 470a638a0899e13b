-- The first message for a node, as the search over the waiting messages tells it. Assumes nothing.
use Rattle.std.specs.Prelude.{Some, None}
use Rattle.std.specs.Option.{MatchOption}
use Rattle.std.specs.List.{AllWithin, HoldsAt}
use mathlib.Core.Path.{◌≡◌, sym}
use mathlib.Core.Bool.{true, false}
use mathlib.Core.List.{List}
use Prim.Native.Nat.{ℕ, ◌<◌}
use native.Mathlib.Omega.{arith}
use lib.Dec.{eqb}
use lib.ListN.{length}
use Rattle.marks.specs.Marks.{Found}
use Rattle.marks.proofs.Laws.{first-at, first-nothing}
use Rattle.rules.specs.declared.Message.{Message}
use Rattle.rules.specs.Pool.{blank}
use Rattle.counts.specs.Counts.{is_for, first_for}

module _ (xs : List Message) (i : ℕ) where
  abbrev pub Other : Message → Type 0
  Other m = eqb m.dest i ≡ false

  abbrev pub For : Message → Type 0
  For m = eqb m.dest i ≡ true

  pub searched : (r : Found) → MatchOption r (AllWithin Other xs 0 (length xs)) (λ q. (q < length xs) × HoldsAt For xs q × AllWithin Other xs 0 q)
      → r ≡ first_for xs i
  unfolding first_for
  searched None k = sym (first-nothing (length xs) (is_for xs i) (λ q h. k q blank (omega arith) h))
  searched (Some q) k = sym (first-at (length xs) (is_for xs i) q k.0 (k.1 blank) (λ s h. k.2 s blank (omega arith) h))
