-- `table_parts::slots_with` meets its contract. The invariant: the slots below s with that number are gathered. Assumes nothing.
use mathlib.Core.Path.{◌≡◌}
use mathlib.Core.Bool.{Bool}
use lib.Dec.{eqb}
use Prim.Native.Nat.{ℕ}
use Rattle.marks.specs.Marks.{gather}
use Rattle.rules.specs.Numbers.{status_number}
use Rattle.table_type.specs.declared.Table.{Table}
use Rattle.table_type.specs.Table.{node_at}
use Rattle.table_parts.proofs.slots_with.Given as goal

abbrev pub is_with : Table → ℕ → ℕ → Bool
is_with t number s = eqb (status_number (node_at t s).status) number

abbrev pub invariant-loop-s : goal.invariant-loop-s
invariant-loop-s l = l.out ≡ gather l.s (is_with l.t l.number)
