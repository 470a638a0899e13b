-- T-05: Deliver and Forward, read together, are 01's taking of a Lookup; and a node at which nothing is forwarded loses a lookup by delivery
-- alone. 01's Take of a Lookup is kept here as what the pair is compared with. Only definitions and statements: the proofs are named in
-- Proved. Assumes nothing.
use Rattle.rules.specs.Shapes.{Planned}
use Rattle.std.specs.Prelude.{◌≡◌, Bool, true, false, cond, not, List, [], ◌∷◌, ◌⊎◌, ℕ, ◌+◌, ◌<◌, eqb, Ok, Err}
use Rattle.rules.specs.Names.{Slot, Marks, Ids, Key, Hops, Place}
use Rattle.rules.specs.declared.Action.{Action}
use Rattle.rules.specs.declared.Action.TheVariants.{Take, Deliver, Forward}
use Rattle.rules.specs.declared.Message.{Message}
use Rattle.rules.specs.declared.Node.{Node}
use Rattle.rules.specs.declared.Pool.{Pool}
use Rattle.rules.specs.declared.Refusal.TheVariants as no
use Rattle.rules.specs.declared.Ring.{Ring}
use Rattle.rules.specs.Hop.{next_hop}
use Rattle.rules.specs.Leaf.{covers_of}
use Rattle.rules.specs.Letters.{lookup_after}
use Rattle.rules.specs.Nodes.{sides_of}
use Rattle.rules.specs.Plans.{is_ready, quiet_plan}
use Rattle.rules.specs.Pool.{message_at}
use Rattle.take.specs.Take.{forward_plan}
use Rattle.table_type.specs.declared.Stepped.{Stepped}
use Rattle.table_type.specs.declared.Table.{Table}
use Rattle.table_type.specs.Table.{node_at, ids_of, ring_of}
use Rattle.table.specs.Settle.{refused_of}
use Rattle.table.specs.Settled.{dead_set}
use Rattle.step.specs.Step.{Asked, takes, taken_of, act_of, is_sound, step_of}
use Rattle.table.specs.Valid.{valid_of}
use Rattle.lookup_laws.specs.Journey.{stepped, LookupAt, Fate, stays, routed, met, delivered, unroutable, fate_of}

-- ---- 01's Take, with its taking of a Lookup

-- 2 unless ready. If i covers k, delivered: nothing is added. Else Lookup goes to the next hop, with one hop more (T-07), or NoLegalRoute(k) to i
unfoldable pub plan_take_lookup : Ring → Ids → Marks → Slot → Node → Key → Hops → Planned
plan_take_lookup g ids dead i v k hops = cond (not (is_ready v.status)) (Err no.Status)
    (cond (covers_of g ids i (sides_of v) k) (Ok (quiet_plan v))
    (Ok (forward_plan (next_hop g ids dead i v k) v (lookup_after (hops + 1) k) k i)))

-- the other kinds as they are
abbrev pub taken_before : Table → Message → Planned
taken_before t m = cond (eqb m.kind 1) (plan_take_lookup (ring_of t) (ids_of t) (dead_set t) m.dest (node_at t m.dest) m.word m.hops) (taken_of t m)

abbrev pub asked_before : Table → Pool → Place → Asked
asked_before t p place = takes p place (taken_before t)

-- the step of 01's Take
unfoldable pub take_of : Table → Pool → ℕ → Place → Stepped
take_of t p len place = cond (is_sound t p len)
    (cond (asked_before t p place).range (act_of t p (asked_before t p place)) (refused_of t p no.OutOfRange))
    (refused_of t p no.Invalid)

-- ---- Demand 2 reads the two together as the old step

-- the one is done and leaves what Take left, the other is refused with 5
pub record OneDone (t : Table) (p : Pool) (len : ℕ) (place : Place) (this other : Action) : Type 0 where
  pub done : (step_of t p len this).answer ≡ Ok tt
  pub same : step_of t p len this ≡ take_of t p len place
  pub refused : step_of t p len other ≡ refused_of t p no.Partner

-- the message at a place is judged: a list of 256 places, a valid table, and a place below the count
pub record Judged (t : Table) (p : Pool) (len : ℕ) (place : Place) : Type 0 where
  pub sound : is_sound t p len ≡ true
  pub waits : place < p.count

abbrev pub status_at : Table → Pool → Place → Bool
status_at t p place = is_ready (node_at t (message_at p place).dest).status

-- at a ready node exactly one of the pair is done
abbrev pub ReadyOne : Type 0
ReadyOne =
    (t : Table) (p : Pool) (len : ℕ) (place : Place) → Judged t p len place → (message_at p place).kind ≡ 1 → status_at t p place ≡ true
    → OneDone t p len place (Deliver place) (Forward place) ⊎ OneDone t p len place (Forward place) (Deliver place)

-- all three are the same
pub record AllAre (t : Table) (p : Pool) (len : ℕ) (place : Place) (s : Stepped) : Type 0 where
  pub deliver : step_of t p len (Deliver place) ≡ s
  pub forward : step_of t p len (Forward place) ≡ s
  pub take : take_of t p len place ≡ s

-- at any other both answer 2, as Take did
abbrev pub OthersTwo : Type 0
OthersTwo =
    (t : Table) (p : Pool) (len : ℕ) (place : Place) → Judged t p len place → (message_at p place).kind ≡ 1 → status_at t p place ≡ false
    → AllAre t p len place (refused_of t p no.Status)

-- Take is refused with 5 on a Lookup
abbrev pub TakeFive : Type 0
TakeFive = (t : Table) (p : Pool) (len : ℕ) (place : Place) → Judged t p len place → (message_at p place).kind ≡ 1
    → step_of t p len (Take place) ≡ refused_of t p no.Partner

-- on another kind the pair is refused with 5, and Take is as it was
pub record AnotherKind (t : Table) (p : Pool) (len : ℕ) (place : Place) : Type 0 where
  pub deliver : step_of t p len (Deliver place) ≡ refused_of t p no.Partner
  pub forward : step_of t p len (Forward place) ≡ refused_of t p no.Partner
  pub take : step_of t p len (Take place) ≡ take_of t p len place

abbrev pub OtherKinds : Type 0
OtherKinds = (t : Table) (p : Pool) (len : ℕ) (place : Place) → Judged t p len place → ((message_at p place).kind ≡ 1 → ⊥) → AnotherKind t p len place

-- and with no message to judge (10, 1) all are refused alike
abbrev pub Unjudged : Type 0
Unjudged = (t : Table) (p : Pool) (len : ℕ) (place : Place) → (Judged t p len place → ⊥)
    → AllAre t p len place (step_of t p len (Take place))

-- ---- a gateway hands records over and never forwards

-- the action is a Forward of a message that waits for slot d
pub data ForwardsAt (p : Pool) (d : Slot) : Action → Type 0 where
  forwards-at : {place : Place} → (message_at p place).dest ≡ d → ForwardsAt p d (Forward place)

-- none of these actions, made one after the other, is
unfoldable pub NoForwardAt : Slot → Table → Pool → List Action → Type 0
NoForwardAt d t p [] = Unit {0}
NoForwardAt d t p (a ∷ acts) = (ForwardsAt p d a → ⊥) × NoForwardAt d (stepped t p a).table (stepped t p a).pool acts

-- what becomes of the lookup at place q along these actions: it waits still, or the fate that ended its waiting at its node
abbrev pub end_by : Fate → (Place → Fate) → Fate
end_by (stays q) rest = rest q
end_by (routed h q) rest = routed h q
end_by (met h r) rest = met h r
end_by delivered rest = delivered
end_by unroutable rest = unroutable

unfoldable pub end_of : Table → Pool → List Action → Place → Fate
end_of t p [] q = stays q
end_of t p (a ∷ acts) q = end_by (fate_of t p q a) (end_of (stepped t p a).table (stepped t p a).pool acts)

-- the messages after these actions
unfoldable pub pool_after : Table → Pool → List Action → Pool
pool_after t p [] = p
pool_after t p (a ∷ acts) = pool_after (stepped t p a).table (stepped t p a).pool acts

-- whatever the others forward, a lookup at the gateway waits there still, the same message, or was delivered there
abbrev pub GatewayHolds : Type 0
GatewayHolds =
    (t : Table) (p : Pool) (q : Place) (k : Key) (d : Slot) (acts : List Action) → valid_of t p ≡ true → LookupAt p q k d → NoForwardAt d t p acts
    → (end_of t p acts q ≡ delivered)
    ⊎ ((r : Place) × (end_of t p acts q ≡ stays r) × LookupAt (pool_after t p acts) r k d × (message_at (pool_after t p acts) r ≡ message_at p q))
