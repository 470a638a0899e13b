-- Beside 01: what every step keeps where nodes join in turn: nine clauses, each of one node, of two, or of one message. Definitions only, each under
-- its sentence: the laws are in the other files. Assumes nothing.
use Rattle.std.specs.Prelude.{◌≡◌, ◌⊎◌, true, false, ℕ, ◌<◌, ◌≤◌}
use Rattle.marks.specs.Marks.{has}
use Rattle.rules.specs.Names.{Slot, Marks, Ids, Place}
use Rattle.rules.specs.declared.Ring.{Ring}
use Rattle.rules.specs.declared.Sides.{Sides}
use Rattle.rules.specs.declared.Node.{Node}
use Rattle.rules.specs.declared.Message.{Message}
use Rattle.rules.specs.declared.Pool.{Pool}
use Rattle.rules.specs.Leaf.{content_of, is_empty, way_up, way_down}
use Rattle.rules.specs.Nodes.{sides_of, carried_of}
use Rattle.rules.specs.Plans.{is_dead, is_wait, is_up}
use Rattle.rules.specs.Pool.{message_at}
use Rattle.table_type.specs.declared.Table.{Table}
use Rattle.table_type.specs.Table.{node_at, ids_of, ring_of}

-- what the clauses look at: the numbers of the ring, the ids by slot, and the node of each slot
pub record View : Type 0 where
  pub ring : Ring
  pub ids : Ids
  pub at : Slot → Node

abbrev pub view_of : Table → View
view_of t = record { ring = ring_of t; ids = ids_of t; at = node_at t }

-- ---- words

-- slot i is up: ok or ready
abbrev pub Up : View → Slot → Type 0
Up t i = (i < t.ring.n) × (is_up (t.at i).status ≡ true)

-- slot i is wait
abbrev pub Waits : View → Slot → Type 0
Waits t i = (i < t.ring.n) × (is_wait (t.at i).status ≡ true)

-- slot i is listed and not dead
abbrev pub Alive : View → Slot → Type 0
Alive t i = (i < t.ring.n) × (is_dead (t.at i).status ≡ false)

-- the leaf set of i is not empty
abbrev pub Filled : View → Slot → Type 0
Filled t i = is_empty (sides_of (t.at i)) ≡ false

-- i is wait, or its leaf set is not empty
abbrev pub Joining : View → Slot → Type 0
Joining t i = Waits t i ⊎ Filled t i

-- i is wait and its leaf set is empty
abbrev pub Blank : View → Slot → Type 0
Blank t i = Waits t i × (is_empty (sides_of (t.at i)) ≡ true)

-- some slot below n that is in the set is no farther than y, by the distance f
abbrev pub Within : (Slot → ℕ) → ℕ → Marks → Slot → Type 0
Within f n set y = (u : Slot) × (u < n) × (has set u ≡ true) × (f u ≤ f y)

-- x guards against y, for the sides of x and any slot y: some member of x's left is no farther up from x than y, and some member of x's
-- right no farther down
pub record Guards (g : Ring) (ids : Ids) (x : Slot) (s : Sides) (y : Slot) : Type 0 where
  pub up : Within (way_up g ids x) g.n s.left y
  pub down : Within (way_down g ids x) g.n s.right y

-- the same, for the sides that x has
abbrev pub GuardsAt : View → Slot → Slot → Type 0
GuardsAt t x y = Guards t.ring t.ids x (sides_of (t.at x)) y

-- y is in a side
abbrev pub Beside : View → Sides → Slot → Type 0
Beside t s y = (y < t.ring.n) × ((has s.left y ≡ true) ⊎ (has s.right y ≡ true))

-- y is in the content that a message carries
abbrev pub Carries : View → Message → Slot → Type 0
Carries t m y = (y < t.ring.n) × (has (content_of (carried_of m) m.owner) y ≡ true)

-- ---- clauses 1 to 4, of the nodes

pub record Calm (t : View) : Type 0 where
  -- 1. at most one node is wait
  pub one : (i j : Slot) → Waits t i → Waits t j → i ≡ j
  -- 2. x up, or x wait and not empty; e up, e not x: x guards against e
  pub members : (x e : Slot) → Up t x ⊎ (Waits t x × Filled t x) → Up t e → (e ≡ x → ⊥) → GuardsAt t x e
  -- 3. x not dead, y in a side of x: y is not dead, and x guards against y
  pub known : (x y : Slot) → Alive t x → Beside t (sides_of (t.at x)) y → Alive t y × GuardsAt t x y
  -- 4. every node's failed is empty; and for i wait and not empty, each e up: e is in probing of i, or e guards against i
  pub trusting : (i : Slot) → i < t.ring.n → (t.at i).failed ≡ 0
  pub joiner : (i e : Slot) → Waits t i → Filled t i → Up t e → (has (t.at i).probing e ≡ true) ⊎ GuardsAt t e i

-- ---- clauses 5 to 9, of each message

-- every node that m carries is up; and for each e up, one that m carries is no farther up from i than e, and one no farther down
pub record Introduces (t : View) (i : Slot) (m : Message) : Type 0 where
  pub all_up : (y : Slot) → Carries t m y → Up t y
  pub above : (e : Slot) → Up t e → (u : Slot) × Carries t m u × (way_up t.ring t.ids i u ≤ way_up t.ring t.ids i e)
  pub below : (e : Slot) → Up t e → (u : Slot) × Carries t m u × (way_down t.ring t.ids i u ≤ way_down t.ring t.ids i e)

pub record Fair (t : View) (m : Message) : Type 0 where
  -- 5. JoinRequest of j: j is wait, or j is not empty
  pub request : m.kind ≡ 2 → Joining t m.word
  -- 6. JoinReply to i: i is wait or not empty; and if i is wait and empty, the message introduces it
  pub reply : m.kind ≡ 3 → Joining t m.dest × (Blank t m.dest → Introduces t m.dest m)
  -- 7. LSProbe from j: j is not dead
  pub probe : m.kind ≡ 4 → Alive t m.word
  -- 8. LSProbeReply from j to x: j is not dead, and j guards against x
  pub answer : m.kind ≡ 5 → Alive t m.word × GuardsAt t m.word m.dest
  -- 9. BroadcastLSet: no member of its content is dead
  pub broadcast : m.kind ≡ 8 → (y : Slot) → Carries t m y → Alive t y

-- ---- of a table and its pool

pub record Clauses (t : Table) (p : Pool) : Type 0 where
  pub nodes : Calm (view_of t)
  pub mail : (q : Place) → q < p.count → Fair (view_of t) (message_at p q)
