-- What the fate of a lookup says of the real step, in full: the step, what it leaves of table and pool, and where the Lookup is. So no
-- tracked lookup is lost or exchanged. Definitions only: Tracks proves that every fate holds. Assumes nothing.
use Rattle.std.specs.Prelude.{◌≡◌, Bool, true, false, List, [], ◌∷◌, ◌++◌, ◌+◌, ◌<◌}
use Rattle.rules.specs.Names.{Slot, Key, Place}
use Rattle.rules.specs.declared.Hop.{Hop}
use Rattle.rules.specs.declared.Hop.TheVariants.{To, NoRoute}
use Rattle.rules.specs.declared.Message.{Message}
use Rattle.rules.specs.declared.Pool.{Pool}
use Rattle.rules.specs.declared.Action.{Action}
use Rattle.rules.specs.declared.Action.TheVariants.{Deliver, Forward}
use Rattle.rules.specs.declared.Via.{Via}
use Rattle.rules.specs.declared.Via.TheVariants.{Unrouted}
use Rattle.rules.specs.Hop.{next_hop, via_of}
use Rattle.rules.specs.Leaf.{covers_of}
use Rattle.rules.specs.Letters.{lookup_after, no_legal_route}
use Rattle.rules.specs.Mail.{added, removed_at}
use Rattle.rules.specs.Nodes.{sides_of, placed}
use Rattle.rules.specs.Plans.{is_ready}
use Rattle.rules.specs.Pool.{waiting, message_at, laid}
use Rattle.table_type.specs.declared.Table.{Table}
use Rattle.table_type.specs.Table.{node_at, ids_of, ring_of}
use Rattle.table.specs.Settle.{done_by}
use Rattle.table.specs.Settled.{dead_set}
use Rattle.lookup_laws.specs.Journey.{stepped, hops_at, LookupAt, Fate, stays, routed, met, delivered, unroutable}

-- the messages but the one at place q
abbrev pub others : Pool → Place → List Message
others p q = removed_at (waiting p) q

-- slot d covers k, and its next hop for k
abbrev pub covers_at : Table → Slot → Key → Bool
covers_at t d k = covers_of (ring_of t) (ids_of t) d (sides_of (node_at t d)) k

abbrev pub hop_at : Table → Slot → Key → Hop
hop_at t d k = next_hop (ring_of t) (ids_of t) (dead_set t) d (node_at t d) k

-- T-01: where the next hop h of slot d came from
abbrev pub via_at : Table → Slot → Slot → Via
via_at t d h = via_of d (node_at t d) h

-- the step is this action on place q at slot d, which is ready; it says this of the next hop, and leaves the table as it was, and exactly these messages
pub record Took (t : Table) (p : Pool) (d : Slot) (a this : Action) (via : Via) (ys : List Message) : Type 0 where
  pub act : a ≡ this
  pub ready : is_ready (node_at t d).status ≡ true
  pub leaves : stepped t p a ≡ done_by via t (laid ys)

-- ---- what each fate says of the step a on the table t and the pool p, in which a Lookup of k for slot d waits at place q

-- where it stays, the same Lookup waits at the place named, with the same hops
pub record Stays (t : Table) (p : Pool) (q : Place) (k : Key) (d : Slot) (a : Action) (r : Place) : Type 0 where
  pub now : LookupAt (stepped t p a).pool r k d
  pub same : message_at (stepped t p a).pool r ≡ message_at p q

-- forwarded to h: the others wait as before, and the Lookup, now for h and with one hop more, at their end
pub record Goes (t : Table) (p : Pool) (q : Place) (k : Key) (d : Slot) (a : Action) (h : Slot) (r : Place) : Type 0 where
  pub took : Took t p d a (Forward q) (via_at t d h) (others p q ++ (placed (lookup_after (hops_at p q + 1) k) h ∷ []))
  pub uncovered : covers_at t d k ≡ false
  pub hop : hop_at t d k ≡ To h
  pub now : LookupAt (stepped t p a).pool r k h
  pub hops : hops_at (stepped t p a).pool r ≡ hops_at p q + 1

-- forwarded to h, where its equal waits, at place r, and stays with its own hops
pub record Meets (t : Table) (p : Pool) (q : Place) (k : Key) (d : Slot) (a : Action) (h : Slot) (r : Place) : Type 0 where
  pub took : Took t p d a (Forward q) (via_at t d h) (others p q)
  pub uncovered : covers_at t d k ≡ false
  pub hop : hop_at t d k ≡ To h
  pub equal : LookupAt (stepped t p a).pool r k h

-- delivered
pub record Ends (t : Table) (p : Pool) (q : Place) (k : Key) (d : Slot) (a : Action) : Type 0 where
  pub took : Took t p d a (Deliver q) Unrouted (others p q)
  pub covered : covers_at t d k ≡ true

-- forwarded with no legal route: NoLegalRoute of k for d waits in its stead
pub record Strands (t : Table) (p : Pool) (q : Place) (k : Key) (d : Slot) (a : Action) : Type 0 where
  pub took : Took t p d a (Forward q) Unrouted (added (others p q) (placed (no_legal_route k) d))
  pub uncovered : covers_at t d k ≡ false
  pub no-hop : hop_at t d k ≡ NoRoute
  pub told : (r : Place) × (r < (stepped t p a).pool.count) × (message_at (stepped t p a).pool r ≡ placed (no_legal_route k) d)

abbrev pub Tracked : Table → Pool → Place → Key → Slot → Action → Fate → Type 0
Tracked t p q k d a (stays r) = Stays t p q k d a r
Tracked t p q k d a (routed h r) = Goes t p q k d a h r
Tracked t p q k d a (met h r) = Meets t p q k d a h r
Tracked t p q k d a delivered = Ends t p q k d a
Tracked t p q k d a unroutable = Strands t p q k d a
