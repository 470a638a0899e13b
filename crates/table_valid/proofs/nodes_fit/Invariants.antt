-- `table_valid::nodes_fit` meets its contract. The invariants: the first s slots obey their rules; and in the first loop low is the least id that slot s may have.
-- Assumes nothing.
use mathlib.Core.Path.{◌≡◌}
use mathlib.Core.Bool.{Bool, true}
use Prim.Native.Nat.{ℕ}
use Rattle.marks.specs.Marks.{all_to}
use Rattle.rules.specs.Fits.{slot_fits}
use Rattle.table_type.specs.declared.Table.{Table}
use Rattle.table_type.specs.Table.{node_at, ids_of, ring_of}
use Rattle.table_valid.proofs.Slots.{low_at}
use Rattle.table_valid.proofs.nodes_fit.Given as goal

abbrev pub fits_at : Table → ℕ → Bool
fits_at t s = slot_fits (ring_of t) (ids_of t) s (node_at t s)

abbrev pub invariant-loop-s : goal.invariant-loop-s
invariant-loop-s l = (l.low ≡ low_at (ids_of l.t) l.s) × (all_to l.s (fits_at l.t) ≡ true)

abbrev pub invariant-loop-s-2 : goal.invariant-loop-s-2
invariant-loop-s-2 l = all_to l.s (fits_at l.t) ≡ true
