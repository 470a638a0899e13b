-- T-13: the node that a record goes to, and the nodes that get its copies. Definitions only, each under the request's words.
-- Assumes nothing.
use Rattle.std.specs.Prelude.{Bool, cond, ◌&&◌, ℕ, ◌^◌, ltb, Result, Ok, Err, Some, None}
use Rattle.marks.specs.Marks.{first_to, single, add_of, remove_of, Found}
use Rattle.rules.specs.Names.{Slot, Marks, Key}
use Rattle.rules.specs.declared.Pool.{Pool}
use Rattle.rules.specs.declared.Refusal.TheVariants as no
use Rattle.rules.specs.declared.Sides.{Sides}
use Rattle.rules.specs.Leaf.{covers_of, left_neighbour, right_neighbour}
use Rattle.rules.specs.Nodes.{sides_of}
use Rattle.rules.specs.Numbers.{refusal_number}
use Rattle.rules.specs.Plans.{is_ready}
use Rattle.table_type.specs.declared.Table.{Table}
use Rattle.table_type.specs.Table.{node_at, ids_of, ring_of}
use Rattle.table.specs.Settled.{is_settled}
use Rattle.step.specs.Step.{is_sound}
use Rattle.holder.specs.declared.Holder.{Holder}
use Rattle.holder.specs.declared.Unheld.{Unheld}
use Rattle.holder.specs.declared.Unheld.TheVariants.{NotAsked, OutOfRange, Unsettled}

-- slot s is ready and covers k; a node that is not ready holds nothing, whatever it covers
abbrev pub ready_covers : Table → Key → Slot → Bool
ready_covers t k s = is_ready (node_at t s).status && covers_of (ring_of t) (ids_of t) s (sides_of (node_at t s)) k

-- the node that covers its key: the first such slot, which in a settled table is the only one (Holds)
unfoldable pub covered_by : Table → Key → Found
covered_by t k = first_to t.n (ready_covers t k)

-- copies to that node's left and right neighbours (one copy if they coincide, none if it is alone)
unfoldable pub copies_of : Table → Slot → Marks
copies_of t h =
    let s : Sides = sides_of (node_at t h) in
    remove_of (add_of (single (left_neighbour (ring_of t) (ids_of t) h s)) (right_neighbour (ring_of t) (ids_of t) h s)) h

-- the holder of a key, or why there is none
abbrev pub Holding : Type 0
Holding = Result Holder Unheld

-- a record goes to that node; in a settled table there is always one (Holds)
abbrev pub held_at : Table → Found → Holding
held_at t (Some h) = Ok (record { slot = h; copies = copies_of t h })
held_at t None = Err Unsettled

-- then a key out of range, then a table that is not settled
abbrev pub holding_in : Table → Bool → Key → Holding
holding_in t settled k = cond (ltb k (2 ^ t.m)) (cond settled (held_at t (covered_by t k)) (Err Unsettled)) (Err OutOfRange)

-- 10 for a list without 256 places or an invalid table, before anything else
unfoldable pub holding_of : Table → Pool → ℕ → Key → Holding
holding_of t p len k = cond (is_sound t p len) (holding_in t (is_settled t) k) (Err (NotAsked no.Invalid))

-- 01's numbers for the first two, 15 table not settled
abbrev pub holding_number : Holding → ℕ
holding_number (Err (NotAsked why)) = refusal_number why
holding_number (Err OutOfRange) = refusal_number no.OutOfRange
holding_number (Err Unsettled) = 15
holding_number (Ok held) = 0
