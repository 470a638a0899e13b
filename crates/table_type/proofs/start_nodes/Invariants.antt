-- `table_type::start_nodes` meets its contract. The invariant: the first s nodes are written, and the slots past them are blank. Assumes nothing.
use Rattle.rules.specs.Nodes.{no_node}
use Rattle.start.specs.Start.{start_node}
use Rattle.table_type.proofs.Laws.{Filled}
use Rattle.table_type.proofs.start_nodes.Given as goal

abbrev pub invariant-loop-s : goal.invariant-loop-s
invariant-loop-s l = Filled no_node (start_node l.r.ring l.r.ids l.a) l.s l.nodes
