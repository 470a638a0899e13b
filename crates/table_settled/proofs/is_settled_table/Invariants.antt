-- `table_settled::is_settled_table` meets its contract. The invariant: the nodes below i are calm (Laws).
-- A turn decides whether a node is calm by its status. Assumes nothing.
use mathlib.Core.Path.{◌≡◌}
use mathlib.Core.Bool.{true}
use Rattle.marks.specs.Marks.{all_to}
use Rattle.table_settled.proofs.Laws.{calm_in}
use Rattle.table_settled.proofs.is_settled_table.Given as goal

abbrev pub invariant-loop-i : goal.invariant-loop-i
invariant-loop-i l = all_to l.i (calm_in l.t) ≡ true
