-- T-08: one holder while others are joining: of any valid table whose ready nodes are flanked by their neighbours, whatever the status of the others. This
-- is 001's reduction (HalfNeighbor and NeighborClosest imply CorrectDeliver) with 01's tie rule. Only statements: the proofs are named in
-- Proved. Assumes nothing.
use Rattle.std.specs.Prelude.{◌≡◌, true, false, ◌^◌, ◌<◌, ◌≤◌}
use Rattle.marks.specs.Marks.{size_of}
use Rattle.rules.specs.Names.{Slot, Key}
use Rattle.rules.specs.declared.Pool.{Pool}
use Rattle.rules.specs.Leaf.{left_neighbour, right_neighbour, way_up, way_down}
use Rattle.rules.specs.Nodes.{sides_of}
use Rattle.table_type.specs.declared.Table.{Table}
use Rattle.table_type.specs.Table.{node_at, ids_of, ring_of}
use Rattle.table.specs.Valid.{valid_of}
use Rattle.table.specs.Settled.{ready_set, is_settled}
use Rattle.lookup_laws.specs.Claims.{Nearer, Ready}
use Rattle.lookup_laws.specs.Fates.{covers_at}

-- the left and the right neighbour of slot i
abbrev pub left_at : Table → Slot → Slot
left_at t i = left_neighbour (ring_of t) (ids_of t) i (sides_of (node_at t i))

abbrev pub right_at : Table → Slot → Slot
right_at t i = right_neighbour (ring_of t) (ids_of t) i (sides_of (node_at t i))

-- the neighbours of i are at least as close to it, in their own directions, as j
pub record AsClose (t : Table) (i j : Slot) : Type 0 where
  pub left : way_up (ring_of t) (ids_of t) i (left_at t i) ≤ way_up (ring_of t) (ids_of t) i j
  pub right : way_down (ring_of t) (ids_of t) i (right_at t i) ≤ way_down (ring_of t) (ids_of t) i j

-- i is its own neighbour on neither side
pub record NotItsOwn (t : Table) (i : Slot) : Type 0 where
  pub left : left_at t i ≡ i → ⊥
  pub right : right_at t i ≡ i → ⊥

-- for every two different ready nodes each one's left and right neighbours are at least as close, in their own directions, as the other ready node, and,
-- where there are two or more ready nodes, none is its own neighbour on either side
pub record Flanked (t : Table) : Type 0 where
  pub close : (i j : Slot) → Ready t i → Ready t j → (i ≡ j → ⊥) → AsClose t i j
  pub own : 2 ≤ size_of (ready_set t) → (i : Slot) → Ready t i → NotItsOwn t i

-- then no two ready nodes cover one key
abbrev pub OneHolder : Type 0
OneHolder = (t : Table) (p : Pool) (k : Key) (i j : Slot) → valid_of t p ≡ true → Flanked t → k < 2 ^ t.m → Ready t i → Ready t j
    → covers_at t i k ≡ true → covers_at t j k ≡ true → i ≡ j

-- and a ready node that covers a key is nearer to it than every other ready node
abbrev pub HolderNearest : Type 0
HolderNearest =
    (t : Table) (p : Pool) (k : Key) (i j : Slot) → valid_of t p ≡ true → Flanked t → k < 2 ^ t.m → Ready t i → Ready t j → (j ≡ i → ⊥)
    → covers_at t i k ≡ true → Nearer t k i j

-- every settled table is so
abbrev pub SettledFlanked : Type 0
SettledFlanked = (t : Table) (p : Pool) → valid_of t p ≡ true → is_settled t ≡ true → Flanked t

-- There may be keys that nobody covers: in such a table, with two ready nodes and not settled, no node of any status covers k
pub record NobodyCovers (t : Table) (p : Pool) (k : Key) : Type 0 where
  pub valid : valid_of t p ≡ true
  pub flanked : Flanked t
  pub two : 2 ≤ size_of (ready_set t)
  pub unsettled : is_settled t ≡ false
  pub key : k < 2 ^ t.m
  pub nobody : (i : Slot) → i < t.n → covers_at t i k ≡ false

abbrev pub SomeUnheld : Type 0
SomeUnheld = (t : Table) × (p : Pool) × (k : Key) × NobodyCovers t p k

-- In a settled table there are none: some ready node covers k
abbrev pub SettledHeld : Type 0
SettledHeld = (t : Table) (p : Pool) (k : Key) → valid_of t p ≡ true → is_settled t ≡ true → k < 2 ^ t.m
    → (i : Slot) × Ready t i × (covers_at t i k ≡ true)

-- and the neighbours of a ready node are ready
abbrev pub SettledBeside : Type 0
SettledBeside = (t : Table) (p : Pool) (i : Slot) → valid_of t p ≡ true → is_settled t ≡ true → Ready t i → Ready t (left_at t i) × Ready t (right_at t i)
