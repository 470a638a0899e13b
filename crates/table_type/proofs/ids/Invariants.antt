-- `table_type::ids` meets its contract. The invariant: the first s ids are written. Assumes nothing.
use mathlib.Core.List.{List}
use Prim.Native.Nat.{ℕ}
use lib.ListN.{get_or}
use Rattle.rules.specs.declared.Node.{Node}
use Rattle.rules.specs.Nodes.{no_node}
use Rattle.table_type.proofs.Laws.{Filled}
use Rattle.table_type.proofs.ids.Given as goal

abbrev pub id_in : List Node → ℕ → ℕ
id_in vs i = (get_or vs i no_node).id

abbrev pub invariant-loop-s : goal.invariant-loop-s
invariant-loop-s l = Filled 0 (id_in l.t.nodes) l.s l.r
