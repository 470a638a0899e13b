-- Tables: what stands at a slot. Assumes nothing.
use Rattle.std.specs.Prelude.{map, get_or, set}
use Rattle.rules.specs.Names.{Slot, Id, Ids}
use Rattle.rules.specs.declared.Node.{Node}
use Rattle.rules.specs.declared.Ring.{Ring}
use Rattle.rules.specs.Nodes.{no_node}
use Rattle.table_type.specs.declared.Table.{Table}

abbrev pub node_at : Table → Slot → Node
node_at t i = get_or t.nodes i no_node

abbrev pub with_node : Table → Slot → Node → Table
with_node t i v = record { m = t.m; l = t.l; n = t.n; nodes = set t.nodes i v }

-- the ids by slot
abbrev pub id_of : Node → Id
id_of v = v.id

abbrev pub ids_of : Table → Ids
ids_of t = map id_of t.nodes

abbrev pub ring_of : Table → Ring
ring_of t = record { m = t.m; l = t.l; n = t.n }
