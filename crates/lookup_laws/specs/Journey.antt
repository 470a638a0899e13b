-- The journey of one lookup through any steps. A tracked lookup is known by its place in the pool; each step of the real step function
-- moves it, routes it, ends it or leaves it. Definitions only: Tracks proves that they say where the message really is. Assumes nothing.
use Rattle.rules.specs.Shapes.{Answer}
use Rattle.std.specs.Prelude.{◌≡◌, cond, List, [], ◌∷◌, ℕ, suc, pred, ◌-◌, ◌<◌, eqb, ltb, length, Some, None, Ok, Err}
use Rattle.marks.specs.Marks.{tally, Found}
use Rattle.rules.specs.Names.{Slot, Key, Hops, Place}
use Rattle.rules.specs.declared.Hop.{Hop}
use Rattle.rules.specs.declared.Hop.TheVariants.{To, NoRoute}
use Rattle.rules.specs.declared.Message.{Message}
use Rattle.rules.specs.declared.Pool.{Pool}
use Rattle.rules.specs.declared.Action.{Action}
use Rattle.rules.specs.declared.Action.TheVariants.{Deliver, Forward}
use Rattle.rules.specs.Mail.{is_probe_from, first_equal, removed_at}
use Rattle.rules.specs.Letters.{lookup, lookup_after}
use Rattle.rules.specs.Nodes.{sides_of, placed}
use Rattle.rules.specs.Leaf.{covers_of}
use Rattle.rules.specs.Hop.{next_hop}
use Rattle.rules.specs.Pool.{waiting, message_at}
use Rattle.table_type.specs.declared.Table.{Table}
use Rattle.table_type.specs.declared.Stepped.{Stepped}
use Rattle.table_type.specs.Table.{node_at, ids_of, ring_of}
use Rattle.table.specs.Settled.{dead_set}
use Rattle.step.specs.Step.{Gone, all_stay, one-goes, probes-go, asked, step_of}

-- the step, on a list of 256 places
abbrev pub stepped : Table → Pool → Action → Stepped
stepped t p a = step_of t p 256 a

-- T-07: the hops of the message at place q
abbrev pub hops_at : Pool → Place → Hops
hops_at p q = (message_at p q).hops

-- a Lookup of k waits at place q, for slot d, whatever its hops
pub record LookupAt (p : Pool) (q : Place) (k : Key) (d : Slot) : Type 0 where
  pub waits : q < p.count
  pub is : message_at p q ≡ placed (lookup_after (hops_at p q) k) d

-- what a step does to the lookup that waits at a place
pub data Fate : Type 0 where
  -- it waits still, now at this place
  stays : Place → Fate
  -- it is routed to this slot, and waits now at this place
  routed : Slot → Place → Fate
  -- it is routed to this slot and meets its equal, which waits at this place: its journey ends there, and the waiting one goes on
  met : Slot → Place → Fate
  -- it is delivered
  delivered : Fate
  -- it becomes NoLegalRoute
  unroutable : Fate

abbrev pub landing : Found → Slot → Place → Fate
landing (Some r) h last = met h r
landing None h last = routed h last

-- where a lookup that goes to the next hop lands, xs being the other messages
abbrev pub onward : Hop → List Message → Key → Fate
onward (To h) xs k = landing (first_equal xs (placed (lookup k) h)) h (length xs)
onward NoRoute xs k = unroutable

-- the tracked lookup itself goes: delivered where its node covers the key, which Deliver asks for, and else forwarded
abbrev pub fate_taken : Table → Pool → Place → Message → Fate
fate_taken t p q m = cond (covers_of (ring_of t) (ids_of t) m.dest (sides_of (node_at t m.dest)) m.word) delivered
    (onward (next_hop (ring_of t) (ids_of t) (dead_set t) m.dest (node_at t m.dest) m.word) (removed_at (waiting p) q) m.word)

-- T-03: how many LSProbes from i to j wait before place q
abbrev pub probes_before : Pool → Slot → Slot → Place → ℕ
probes_before p i j q = tally q (λ r. is_probe_from i j (message_at p r))

-- a done step: removing closes the gap, and additions go to the end
abbrev pub fate_done : Table → Pool → Place → Gone → Fate
fate_done t p q all_stay = stays q
fate_done t p q (one-goes place) = cond (eqb place q) (fate_taken t p q (message_at p q)) (stays (cond (ltb place q) (pred q) q))
-- T-03
fate_done t p q (probes-go i j) = stays (q - probes_before p i j q)

-- a refused step changes nothing
abbrev pub fate_by : Answer → Table → Pool → Place → Action → Fate
fate_by (Ok tt) t p q a = fate_done t p q (asked t p a).gone
fate_by (Err why) t p q a = stays q

unfoldable pub fate_of : Table → Pool → Place → Action → Fate
fate_of t p q a = fate_by (stepped t p a).answer t p q a

abbrev pub counted : Fate → (Place → ℕ) → ℕ
counted (stays q) rest = rest q
counted (routed h q) rest = suc (rest q)
counted (met h r) rest = 1
counted delivered rest = 0
counted unroutable rest = 0

-- how often the lookup at place q is routed along these actions
unfoldable pub routings : Table → Pool → List Action → Place → ℕ
routings t p [] q = 0
routings t p (a ∷ acts) q = counted (fate_of t p q a) (routings (stepped t p a).table (stepped t p a).pool acts)

-- the slot that a step routed the lookup to
pub data RoutesTo : Fate → Slot → Type 0 where
  waits_there : {h : Slot} {q : Place} → RoutesTo (routed h q) h
  ends_there : {h : Slot} {r : Place} → RoutesTo (met h r) h

-- with no other step between, the lookup of k at place q is forwarded m times to another node and then delivered at slot e; each step is
-- done, on the table and the pool that the one before it left, and the last leaves the table u and the pool r
pub data Delivers (k : Key) : Table → Pool → Place → ℕ → Slot → Table → Pool → Type 0 where
  here : {t : Table} {p : Pool} {q : Place} {e : Slot} → LookupAt p q k e → (stepped t p (Deliver q)).answer ≡ Ok tt
      → fate_of t p q (Deliver q) ≡ delivered → Delivers k t p q 0 e (stepped t p (Deliver q)).table (stepped t p (Deliver q)).pool
  on : {t u : Table} {p r : Pool} {q : Place} {d h : Slot} {q' : Place} {m : ℕ} {e : Slot} → LookupAt p q k d → (stepped t p (Forward q)).answer ≡ Ok tt
      → fate_of t p q (Forward q) ≡ routed h q' → Delivers k (stepped t p (Forward q)).table (stepped t p (Forward q)).pool q' m e u r
      → Delivers k t p q (suc m) e u r
