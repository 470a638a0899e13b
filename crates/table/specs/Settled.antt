-- Settled. Definitions only. Assumes nothing.
use Rattle.std.specs.Prelude.{Bool, ◌&&◌, ◌||◌, not, eqb}
use Rattle.marks.specs.Marks.{gather, all_to, meet, remove_of}
use Rattle.rules.specs.Names.{Slot, Marks, Ids}
use Rattle.rules.specs.declared.Way.TheVariants.{Up, Down}
use Rattle.rules.specs.declared.Ring.{Ring}
use Rattle.rules.specs.Leaf.{seen_from, left_neighbour, right_neighbour}
use Rattle.rules.specs.declared.Node.{Node}
use Rattle.table_type.specs.declared.Table.{Table}
use Rattle.table_type.specs.Table.{node_at, ids_of, ring_of}
use Rattle.rules.specs.Nodes.{sides_of}
use Rattle.rules.specs.Plans.{is_dead, is_ok, is_ready}

-- the ready nodes, and the dead ones
unfoldable pub ready_set : Table → Marks
ready_set t = gather t.n (λ s. is_ready (node_at t s).status)

unfoldable pub dead_set : Table → Marks
dead_set t = gather t.n (λ s. is_dead (node_at t s).status)

-- T-03: the ok ones
unfoldable pub ok_set : Table → Marks
ok_set t = gather t.n (λ s. is_ok (node_at t s).status)

-- T-03: a node at all is ok or ready
abbrev pub some_up : Table → Bool
some_up t = not (eqb (ok_set t) 0) || not (eqb (ready_set t) 0)

-- both neighbours are the next ready ids up and down the ring (itself if alone); no ready node is in a ready node's failed
unfoldable pub settled_at : Ring → Ids → Marks → Slot → Node → Bool
settled_at g ids ready i v = eqb (left_neighbour g ids i (sides_of v)) (seen_from Up g ids i (remove_of ready i))
    && (eqb (right_neighbour g ids i (sides_of v)) (seen_from Down g ids i (remove_of ready i)) && eqb (meet v.failed ready) 0)

-- at least one ready node, none wait or ok; for each ready node the above
unfoldable pub is_settled : Table → Bool
is_settled t = not (eqb (ready_set t) 0) && (all_to t.n (λ i. is_dead (node_at t i).status || is_ready (node_at t i).status)
    && all_to t.n (λ i. not (is_ready (node_at t i).status) || settled_at (ring_of t) (ids_of t) (ready_set t) i (node_at t i)))
