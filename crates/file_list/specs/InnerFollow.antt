-- What comes next for a lookup at a node, and with which letter, by the rules alone. Definitions only. Assumes nothing.
use Rattle.std.specs.Prelude.{cond, not, List, ℕ}
use Rattle.rules.specs.declared.Hop.{Hop}
use Rattle.rules.specs.declared.Hop.TheVariants.{To, NoRoute}
use Rattle.rules.specs.declared.Node.{Node}
use Rattle.rules.specs.declared.Ring.{Ring}
use Rattle.rules.specs.Hop.{next_hop, via_of}
use Rattle.rules.specs.Leaf.{covers_of}
use Rattle.rules.specs.Nodes.{sides_of}
use Rattle.rules.specs.Numbers.{via_number}
use Rattle.rules.specs.Plans.{is_ready}
use Rattle.table_type.specs.declared.Table.{Table}
use Rattle.table_type.specs.Table.{node_at, ring_of, ids_of}
use Rattle.table.specs.Settled.{dead_set}
use Rattle.file_list.specs.declared.Turn.{Turn}
use Rattle.file_list.specs.declared.Turn.TheVariants.{Delivers, Stops, Goes}

-- what a node does with a lookup of k, by the rules
abbrev pub turn_by : Hop → Turn
turn_by (To h) = Goes h
turn_by NoRoute = Stops

-- not ready: it stops there; covered: delivered; else on to the next hop, or no legal route
unfoldable pub turn_of : Ring → List ℕ → ℕ → ℕ → Node → ℕ → Turn
turn_of g ids dead i v k =
    cond (not (is_ready v.status)) Stops (cond (covers_of g ids i (sides_of v) k) Delivers (turn_by (next_hop g ids dead i v k)))

abbrev pub turn_at : Table → ℕ → ℕ → Turn
turn_at t k i = turn_of (ring_of t) (ids_of t) (dead_set t) i (node_at t i) k

-- the letter of the routing from slot i to h
abbrev pub letter_at : Table → ℕ → ℕ → ℕ
letter_at t i h = via_number (via_of i (node_at t i) h)
