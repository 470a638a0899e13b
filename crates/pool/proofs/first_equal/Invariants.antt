-- `pool::first_equal` meets its contract. At a place of what is left: none before it has m's fields (Passed). At a field: those before it
-- are equal. The measure: the places left. Assumes nothing.
use Prim.Native.Nat.{◌≤◌, ◌-◌}
use mathlib.Core.Path.{◌≡◌}
use Rattle.rules.specs.Mail.{removed_at}
use Rattle.pool_laws.proofs.Places.{Same, Passed}
use Rattle.pool.proofs.first_equal.Given as goal

abbrev pub invariant-loop-f : goal.invariant-loop-f
invariant-loop-f l = (l.at ≡ l.initial.at) × Same l.f l.a l.b

abbrev pub invariant-places : goal.invariant-places
invariant-places l = (l.at ≤ l.n) × Passed l.b (removed_at l.waiting l.gone) l.at

abbrev pub decreases-places : goal.decreases-places
decreases-places l = l.n - l.at
