-- Demand 3, sentence by sentence. Only statements: the proofs are in the other files. Assumes nothing.
use Rattle.std.specs.Prelude.{◌≡◌, true, List, ◌↔◌, ℕ, ◌+◌, ◌-◌, ◌%◌, ◌^◌, ◌<◌, ◌≤◌}
use Rattle.ring.specs.Distance.{nearer, abs_dist_of}
use Rattle.marks.specs.Marks.{has, size_of}
use Rattle.rules.specs.Names.{Slot, Key, Place}
use Rattle.rules.specs.declared.Pool.{Pool}
use Rattle.rules.specs.declared.Action.{Action}
use Rattle.rules.specs.Leaf.{covers_of}
use Rattle.rules.specs.Mail.{removed_at}
use Rattle.rules.specs.Nodes.{sides_of}
use Rattle.rules.specs.Pick.{id_at}
use Rattle.rules.specs.Pool.{waiting, laid, message_at}
use Rattle.table_type.specs.declared.Table.{Table}
use Rattle.table_type.specs.Table.{node_at, ids_of, ring_of}
use Rattle.table.specs.Valid.{valid_of}
use Rattle.table.specs.Settled.{ready_set, is_settled}
use Rattle.lookup_laws.specs.Fates.{Tracked}
use Rattle.lookup_laws.specs.Journey.{LookupAt, fate_of, RoutesTo, routings, Delivers}

-- slot a is nearer to key k than slot b
abbrev pub Nearer : Table → Key → Slot → Slot → Type 0
Nearer t k a b = nearer (2 ^ t.m) k (id_at (ids_of t) a) (id_at (ids_of t) b) ≡ true

-- slot i is ready
abbrev pub Ready : Table → Slot → Type 0
Ready t i = (i < t.n) × (has (ready_set t) i ≡ true)

-- slot e is the one ready node nearest k
pub record NearestReady (t : Table) (k : Key) (e : Slot) : Type 0 where
  pub ready : Ready t e
  pub nearest : (j : Slot) → Ready t j → (j ≡ e → ⊥) → Nearer t k e j
  pub one : (j : Slot) → Ready t j → ((i : Slot) → Ready t i → (i ≡ j → ⊥) → Nearer t k j i) → j ≡ e

-- what the rest speaks of: every waiting message of kind 1 is a lookup for its key and slot
abbrev pub EveryLookup : Type 0
EveryLookup = (t : Table) (p : Pool) (q : Place) → valid_of t p ≡ true → q < p.count → (message_at p q).kind ≡ 1 → LookupAt p q (message_at p q).word (message_at p q).dest

-- and what its fate says of the real step is so (Fates)
abbrev pub FatesHold : Type 0
FatesHold = (t : Table) (p : Pool) (q : Place) (k : Key) (d : Slot) (a : Action) → valid_of t p ≡ true → LookupAt p q k d → Tracked t p q k d a (fate_of t p q a)

-- In every valid table, a routed lookup goes to a node nearer its key
abbrev pub GoesNearer : Type 0
GoesNearer =
    (t : Table) (p : Pool) (q : Place) (k : Key) (d : Slot) (a : Action) (h : Slot) → valid_of t p ≡ true → LookupAt p q k d → RoutesTo (fate_of t p q a) h
    → (h < t.n) × Nearer t k h d

-- so no lookup is routed more than n - 1 times among n listed nodes, though other steps fall between
abbrev pub FewRoutings : Type 0
FewRoutings = (t : Table) (p : Pool) (q : Place) (k : Key) (d : Slot) → valid_of t p ≡ true → LookupAt p q k d → (acts : List Action) → routings t p acts q ≤ t.n - 1

-- no other Lookup of k waits
abbrev pub Alone : Pool → Place → Key → Type 0
Alone p q k = (r : Place) → r < p.count → (r ≡ q → ⊥) → (message_at p r).kind ≡ 1 → (message_at p r).word ≡ k → ⊥

-- what is promised of a lookup of k at place q: it is delivered after at most R - 1 routings, R being the ready nodes, at the one ready
-- node nearest its key; the table is as before, and so are the other messages
pub record Arrives (t : Table) (p : Pool) (q : Place) (k : Key) : Type 0 where
  pub hops : ℕ
  pub at : Slot
  pub delivers : Delivers k t p q hops at t (laid (removed_at (waiting p) q))
  pub few : hops ≤ size_of (ready_set t) - 1
  pub nearest : NearestReady t k at

-- In a settled table, with no other step between, a lookup waiting at a ready node, alone for its key, arrives
abbrev pub SettledArrives : Type 0
SettledArrives =
    (t : Table) (p : Pool) (q : Place) (k : Key) (d : Slot) → valid_of t p ≡ true → is_settled t ≡ true → LookupAt p q k d → Ready t d → Alone p q k → Arrives t p q k

-- Of two at equal distance, the one below the key is the nearer: going up from it by that distance reaches the key
abbrev pub TieBelow : Type 0
TieBelow = (t : Table) (p : Pool) (k : Key) (a b : Slot) → valid_of t p ≡ true → k < 2 ^ t.m → a < t.n → b < t.n → (a ≡ b → ⊥)
    → abs_dist_of (2 ^ t.m) k (id_at (ids_of t) a) ≡ abs_dist_of (2 ^ t.m) k (id_at (ids_of t) b)
    → Nearer t k a b ↔ ((id_at (ids_of t) a + abs_dist_of (2 ^ t.m) k (id_at (ids_of t) a)) % 2 ^ t.m ≡ k)

-- what both rest on: in a settled table a ready node covers a key exactly if it is the ready node nearest it
abbrev pub CoversNearest : Type 0
CoversNearest = (t : Table) (p : Pool) (k : Key) (i : Slot) → valid_of t p ≡ true → is_settled t ≡ true → k < 2 ^ t.m → Ready t i
    → (covers_of (ring_of t) (ids_of t) i (sides_of (node_at t i)) k ≡ true) ↔ NearestReady t k i
