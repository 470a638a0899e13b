-- `over_counts::nodes_counted` meets its contract. The invariant: the nodes below i whose count is not 0 are gathered. Assumes nothing.
use mathlib.Core.Path.{◌≡◌}
use mathlib.Core.Bool.{Bool}
use mathlib.Core.List.{List}
use Prim.Native.Nat.{ℕ}
use lib.Dec.{ltb}
use Rattle.marks.specs.Marks.{gather}
use Rattle.counts.specs.Counts.{count_at}
use Rattle.over_counts.proofs.nodes_counted.Given as goal

abbrev pub some_for : List ℕ → ℕ → Bool
some_for c i = ltb 0 (count_at c i)

abbrev pub invariant-loop-i : goal.invariant-loop-i
invariant-loop-i l = l.set ≡ gather l.i (some_for l.counts)
