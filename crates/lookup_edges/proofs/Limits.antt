-- How far the statements reach, computed on small tables. n - 1 routings are reached, though other steps fall between, and R - 1 for two ready nodes. Each hypothesis of the
-- second half is needed: without it a valid table is named in which the lookup does not arrive, or in which a step between stops it. Of
-- settled, which part fails is told part by part (`parts_of`; together they are settled). Assumes nothing.
use Rattle.std.specs.Prelude.{Some, None, Err}
use mathlib.Core.Path.{◌≡◌, refl, ◌∙◌, ap}
use mathlib.Core.Bool.{Bool, true, false, ◌&&◌, ◌||◌, not, and-true}
use mathlib.Core.List.{List, [], ◌∷◌, ◌++◌}
use Prim.Native.Nat.{ℕ, zero, suc, ◌-◌}
use native.Mathlib.Omega.{arith}
use lib.Dec.{eqb}
use lib.ListN.{replicate, length}
use Rattle.ring.specs.Distance.{fall_of, signed_of, abs_dist_of, rises_to, nearer, left_cover_of, right_cover_of, covers_key}
use Rattle.marks.proofs.Bools.{opposed}
use Rattle.marks.proofs.Laws.{all_same}
use Rattle.marks.specs.Marks.{has, gather, tally, all_to, single, union, meet, without, add_of, remove_of, size_of, listed}
use Rattle.rules.specs.declared.Status.{Status}
use Rattle.rules.specs.declared.Status.TheVariants as status
use Rattle.rules.specs.declared.Way.TheVariants.{Up, Down}
use Rattle.rules.specs.declared.Node.{Node}
use Rattle.rules.specs.declared.Pool.{Pool}
use Rattle.rules.specs.declared.Action.{Action}
use Rattle.rules.specs.declared.Action.TheVariants.{LeaseExpired, Deliver, Forward, ProbeTimeOut}
use Rattle.rules.specs.declared.Refusal.TheVariants as no
use Rattle.plan.specs.Actions.{is_neighbour, plan_lease_expired}
use Rattle.rules.specs.Closest.{closest}
use Rattle.rules.specs.Fits.{numbers_fit, id_fits, side_fits, leaf_fits, others_fit, node_fits, is_blank, slot_fits}
use Rattle.rules.specs.Fits.{word_fits, flag_fits, carried_fits, owner_fits, routing_fits, failed_fits, fields_fit, message_fits, farther_than, hops_fit}
use Rattle.rules.specs.Hop.{leaf_candidates, route_candidates, by_leaf, leaf_hop, route_hop, next_hop}
use Rattle.rules.specs.Leaf.{content_of, seen_from, leaf_with, overlaps, covers_of}
use Rattle.rules.specs.Mail.{without_probes, alike, all_different, first_from, first_equal, added, removed_at, sent_to}
use Rattle.plan.specs.Leave.{plan_probe_time_out}
use Rattle.rules.specs.Letters.{no_sides, lookup, ls_probe}
use Rattle.rules.specs.Nodes.{no_node, placed}
use Rattle.rules.specs.Pick.{best}
use Rattle.rules.specs.Plans.{is_dead, is_ready, mailed}
use Rattle.rules.specs.Pool.{laid}
use Rattle.take.specs.Take.{plan_deliver, plan_forward, plan_take}
use Rattle.table_type.specs.declared.Table.{Table}
use Rattle.table_type.specs.declared.Stepped.{Stepped}
use Rattle.table.specs.Settle.{done_of, carried_out, settle}
use Rattle.table.specs.Settled.{ready_set, dead_set, settled_at, is_settled}
use Rattle.start.specs.Start.{slot_ids, slots_to, start_node, start_nodes, start_fits, ids_rise, list_fits}
use Rattle.table_type.specs.Start.{start_of, table_of}
use Rattle.step.specs.Step.{is_sound, step_of}
use Rattle.table_type.specs.Table.{node_at, with_node}
use Rattle.table.specs.Valid.{nodes_fit, messages_fit, pool_fits, valid_of}
use Rattle.lookup_laws.specs.Journey.{stepped, hops_at, LookupAt, Fate, stays, routed, met, delivered, unroutable, fate_of, routings, Delivers, here, on}
use Rattle.lookup_laws.specs.Pair.{ForwardsAt, forwards-at, pool_after}
use Rattle.lookup_laws.specs.Carried.{place_after}
use Rattle.lookup_laws.specs.Claims.{Ready, Alone, Arrives}
use Rattle.lookup_laws.proofs.Holder.{next_of}
use Rattle.lookup_laws.specs.Joining.{left_at, right_at}

-- to unfold this is to unfold all that the tests and steps on small tables compute with
unfoldable pub opened : Unit {0}
unfolding valid_of numbers_fit nodes_fit slot_fits id_fits node_fits leaf_fits side_fits others_fit is_blank listed size_of tally has all_to pool_fits
    messages_fit message_fits farther_than hops_fit fields_fit word_fits flag_fits carried_fits owner_fits routing_fits failed_fits all_different alike fate_of
    routings step_of is_sound settle carried_out mailed sent_to plan_take plan_deliver plan_forward plan_lease_expired is_neighbour covers_of seen_from
    best covers_key left_cover_of right_cover_of fall_of next_hop by_leaf overlaps meet gather leaf_hop route_hop leaf_candidates
    route_candidates content_of union add_of without remove_of nearer abs_dist_of signed_of rises_to dead_set ready_set settled_at is_settled
    single first_equal first_from added removed_at start_of start_fits list_fits ids_rise slot_ids start_nodes start_node slots_to
    leaf_with closest without_probes plan_probe_time_out
opened = tt

-- ---- tables

-- a node with these sides and this failed set
abbrev pub node : ℕ → Status → ℕ → ℕ → ℕ → Node
node id s left right failed =
    record { id = id; status = s; left = left; right = right; probing = 0; failed = failed; routing = 0; lease = 0; grant = 0 }

abbrev pub table : ℕ → ℕ → List Node → Table
table m l vs = record { m = m; l = l; n = length vs; nodes = vs ++ replicate (64 - length vs) no_node }

-- the pool in which a Lookup of k for slot d waits alone
abbrev pub only : ℕ → ℕ → Pool
only k d = laid (placed (lookup k) d ∷ [])

-- ---- what is reached

-- ids 0 to 3, each with the next lower id on its right: the lookup of 0 at 3 is routed n - 1 times
unfoldable pub chain : Table
chain =
    table 3 1 (node 0 status.Ready 0 0 0 ∷ node 1 status.Ready 0 1 0 ∷ node 2 status.Ready 0 2 0 ∷ node 3 status.Ready 0 4 0 ∷ [])

pub chain-valid : valid_of chain (only 0 3) ≡ true
unfolding chain opened
chain-valid = refl

pub chain-routings : routings chain (only 0 3) (Forward 0 ∷ Forward 0 ∷ Forward 0 ∷ Deliver 0 ∷ []) 0 ≡ chain.n - 1
unfolding chain opened
chain-routings = refl

-- after one of them it waits at 2, with one hop (T-07)
pub chain-carries : (place_after chain (only 0 3) (Forward 0 ∷ []) 0 ≡ Some 0) × (hops_at (pool_after chain (only 0 3) (Forward 0 ∷ [])) 0 ≡ 1)
unfolding chain place_after pool_after opened
chain-carries = (refl, refl)

-- where a refused Deliver falls before it, it stays, and is then routed
pub between-carries : (place_after chain (only 0 3) (Deliver 0 ∷ Forward 0 ∷ []) 0 ≡ Some 0) × (hops_at (pool_after chain (only 0 3) (Deliver 0 ∷ Forward 0 ∷ [])) 0 ≡ 1)
unfolding chain place_after pool_after opened
between-carries = (refl, refl)

-- a refused Deliver falls before a routing
pub refused-between : routings chain (only 0 3) (Deliver 0 ∷ Forward 0 ∷ []) 0 ≡ 1
unfolding chain opened
refused-between = refl

-- 0 probes 1, and the probe waits before the lookup: it times out, and the lookup moves up
unfoldable pub probing-chain : Table
probing-chain =
    with_node chain 0 (record { id = 0; status = status.Ready; left = 0; right = 0; probing = 2; failed = 0; routing = 0; lease = 0; grant = 0 })

abbrev pub behind : Pool
behind = laid (placed (ls_probe 0 no_sides 0) 1 ∷ placed (lookup 0) 3 ∷ [])

pub time-out-moves : (valid_of probing-chain behind ≡ true) × (fate_of probing-chain behind 1 (ProbeTimeOut 0 1) ≡ stays 0)
unfolding chain probing-chain opened
time-out-moves = (refl, refl)

pub time-out-between : routings probing-chain behind (ProbeTimeOut 0 1 ∷ Forward 0 ∷ []) 1 ≡ 1
unfolding chain probing-chain opened
time-out-between = refl

-- two ready nodes, as started: the lookup of the other's id is routed R - 1 times, and delivered
unfoldable pub pair : Table
pair = table_of (start_of 2 1 (0 ∷ 2 ∷ []) 3)

pub pair-valid : valid_of pair (only 2 0) ≡ true
unfolding pair opened
pair-valid = refl

pub pair-settled : is_settled pair ≡ true
unfolding pair opened
pair-settled = refl

pub pair_goes : fate_of pair (only 2 0) 0 (Forward 0) ≡ routed 1 0
unfolding pair opened
pair_goes = refl

pub pair_ends : fate_of pair (only 2 1) 0 (Deliver 0) ≡ delivered
unfolding pair opened
pair_ends = refl

-- ---- the parts of settled

-- every ready node passes
abbrev pub each_ready : Table → (ℕ → Bool) → Bool
each_ready t f = all_to t.n (λ i. not (is_ready (node_at t i).status) || f i)

abbrev left_right : Table → ℕ → Bool
left_right t i = eqb (left_at t i) (next_of Up t i)

abbrev right_right : Table → ℕ → Bool
right_right t i = eqb (right_at t i) (next_of Down t i)

abbrev trusting : Table → ℕ → Bool
trusting t i = eqb (meet (node_at t i).failed (ready_set t)) 0

-- at least one ready node; none wait or ok; the left neighbours are right; the right ones are; no ready node is in a ready node's failed
unfoldable pub parts_of : Table → List Bool
parts_of t =
    not (eqb (ready_set t) 0)
    ∷ all_to t.n (λ i. is_dead (node_at t i).status || is_ready (node_at t i).status)
    ∷ each_ready t (left_right t)
    ∷ each_ready t (right_right t)
    ∷ each_ready t (trusting t)
    ∷ []

abbrev every : List Bool → Bool
every [] = true
every (b ∷ bs) = b && every bs

all-and : (n : ℕ) (f g : ℕ → Bool) → all_to n (λ i. f i && g i) ≡ (all_to n f && all_to n g)
unfolding all_to
all-and zero f g = refl
all-and (suc n) f g = rw (all-and n f g) (swap (all_to n f) (all_to n g) (f n) (g n))
  where
    swap : (a b c d : Bool) → ((a && b) && (c && d)) ≡ ((a && c) && (b && d))
    swap true true true d = refl
    swap true true false d = refl
    swap true false true d = refl
    swap true false false d = refl
    swap false b c d = refl

or-and : (a b c : Bool) → (a || (b && c)) ≡ ((a || b) && (a || c))
or-and true b c = refl
or-and false b c = refl

each_and : (t : Table) (f g : ℕ → Bool) → each_ready t (λ i. f i && g i) ≡ (each_ready t f && each_ready t g)
each_and t f g =
    all_same t.n _ _ (λ i l. or-and (not (is_ready (node_at t i).status)) (f i) (g i)) ∙ all-and t.n _ _

-- together they are settled
pub parts-settled : (t : Table) → is_settled t ≡ every (parts_of t)
unfolding is_settled settled_at parts_of
parts-settled t =
    rw (
      each_and t (left_right t) (λ i. right_right t i && trusting t i),
      each_and t (right_right t) (trusting t),
      and-true (each_ready t (trusting t)),
    )

-- ---- what is asked of a lookup that waits alone

pub only-looks : (k d : ℕ) → LookupAt (only k d) 0 k d
only-looks k d = record { waits = omega arith; is = refl }

pub only-alone : (k d : ℕ) → Alone (only k d) 0 k
only-alone k d = λ r l apart one key. apart (omega arith)

-- ---- what does not arrive

-- the fates with which a journey ends, and goes on
abbrev ending : Fate → Bool
ending (stays q) = false
ending (routed h q) = false
ending (met h q) = false
ending delivered = true
ending unroutable = false

abbrev going : Fate → Bool
going (stays q) = false
going (routed h q) = true
going (met h q) = false
going delivered = false
going unroutable = false

stuck : {k : ℕ} {t : Table} {p : Pool} {q m e : ℕ} {u : Table} {r : Pool} → ending (fate_of t p q (Deliver q)) ≡ false → going (fate_of t p q (Forward q)) ≡ false
    → Delivers k t p q m e u r → ⊥
stuck f g (here l a e) = opposed (ap ending e) f
stuck f g (on l a e rest) = opposed (ap going e) g

stuck-next : {k : ℕ} {t : Table} {p : Pool} {q m e : ℕ} {u : Table} {r : Pool} (h i : ℕ) → ending (fate_of t p q (Deliver q)) ≡ false
    → fate_of t p q (Forward q) ≡ routed h i
    → ending (fate_of (stepped t p (Forward q)).table (stepped t p (Forward q)).pool i (Deliver i)) ≡ false
    → going (fate_of (stepped t p (Forward q)).table (stepped t p (Forward q)).pool i (Forward i)) ≡ false → Delivers k t p q m e u r → ⊥
stuck-next h i f to g g' (here l a e) = opposed (ap ending e) f
stuck-next h i f to g g' (on {q' = q'} l a e rest) = let same : i ≡ q' = cc in stuck (rw same at g) (rw same at g') rest

-- valid, the lookup at a ready node and alone, and it does not arrive
pub record Fails (t : Table) (k d : ℕ) : Type 0 where
  pub valid : valid_of t (only k d) ≡ true
  pub ready : Ready t d
  pub lost : Arrives t (only k d) 0 k → ⊥

-- ---- none wait or ok: 2 waits, and the lookup of 2 at 0 goes there and stays

unfoldable pub one-waits : Table
one-waits = table 2 2 (node 0 status.Ready 6 2 0 ∷ node 1 status.Ready 1 1 0 ∷ node 2 status.Wait 0 0 0 ∷ [])

pub one-waits-parts : parts_of one-waits ≡ true ∷ false ∷ true ∷ true ∷ true ∷ []
unfolding one-waits parts_of opened
one-waits-parts = refl

one-waits-computes :
    (valid_of one-waits (only 2 0) ≡ true) × Ready one-waits 0
    × (fate_of one-waits (only 2 0) 0 (Deliver 0) ≡ stays 0) × (fate_of one-waits (only 2 0) 0 (Forward 0) ≡ routed 2 0)
unfolding one-waits opened
one-waits-computes = (refl, (omega arith, refl), refl, refl)

-- there
abbrev waits_at2 : Action → Fate
waits_at2 a = let s = stepped one-waits (only 2 0) (Forward 0) in fate_of s.table s.pool 0 a

one-waits-stays : (waits_at2 (Deliver 0) ≡ stays 0) × (waits_at2 (Forward 0) ≡ stays 0)
unfolding one-waits opened
one-waits-stays = (refl, refl)

pub one-waits-fails : Fails one-waits 2 0
one-waits-fails =
    let c = one-waits-computes in
    let n = one-waits-stays in
    record {
      valid = c.0;
      ready = c.1;
      lost = λ a. stuck-next 2 0 (ap ending c.2) c.3 (ap ending n.0) (ap going n.1) a.delivers;
    }

-- ---- the left neighbours: that of 1 is dead

unfoldable pub left-wrong : Table
left-wrong = table 2 1 (node 0 status.Dead 0 0 0 ∷ node 1 status.Ready 1 0 0 ∷ [])

pub left-wrong-parts : parts_of left-wrong ≡ true ∷ true ∷ false ∷ true ∷ true ∷ []
unfolding left-wrong parts_of opened
left-wrong-parts = refl

left-wrong-computes :
    (valid_of left-wrong (only 0 1) ≡ true) × Ready left-wrong 1
    × (fate_of left-wrong (only 0 1) 0 (Deliver 0) ≡ stays 0) × (fate_of left-wrong (only 0 1) 0 (Forward 0) ≡ unroutable)
unfolding left-wrong opened
left-wrong-computes = (refl, (omega arith, refl), refl, refl)

pub left-wrong-fails : Fails left-wrong 0 1
left-wrong-fails =
    let c = left-wrong-computes in
    record { valid = c.0; ready = c.1; lost = λ a. stuck (ap ending c.2) (ap going c.3) a.delivers }

-- ---- the right neighbours: that of 0 is dead

unfoldable pub right-wrong : Table
right-wrong = table 2 1 (node 0 status.Ready 0 2 0 ∷ node 1 status.Dead 0 0 0 ∷ [])

pub right-wrong-parts : parts_of right-wrong ≡ true ∷ true ∷ true ∷ false ∷ true ∷ []
unfolding right-wrong parts_of opened
right-wrong-parts = refl

right-wrong-computes :
    (valid_of right-wrong (only 1 0) ≡ true) × Ready right-wrong 0
    × (fate_of right-wrong (only 1 0) 0 (Deliver 0) ≡ stays 0) × (fate_of right-wrong (only 1 0) 0 (Forward 0) ≡ unroutable)
unfolding right-wrong opened
right-wrong-computes = (refl, (omega arith, refl), refl, refl)

pub right-wrong-fails : Fails right-wrong 1 0
right-wrong-fails =
    let c = right-wrong-computes in
    record { valid = c.0; ready = c.1; lost = λ a. stuck (ap ending c.2) (ap going c.3) a.delivers }

-- ---- no ready node in a ready node's failed: 0 holds 1 for failed

unfoldable pub ready-failed : Table
ready-failed = table 2 1 (node 0 status.Ready 2 2 2 ∷ node 1 status.Ready 1 1 0 ∷ [])

pub ready-failed-parts : parts_of ready-failed ≡ true ∷ true ∷ true ∷ true ∷ false ∷ []
unfolding ready-failed parts_of opened
ready-failed-parts = refl

ready-failed-computes :
    (valid_of ready-failed (only 1 0) ≡ true) × Ready ready-failed 0
    × (fate_of ready-failed (only 1 0) 0 (Deliver 0) ≡ stays 0) × (fate_of ready-failed (only 1 0) 0 (Forward 0) ≡ unroutable)
unfolding ready-failed opened
ready-failed-computes = (refl, (omega arith, refl), refl, refl)

pub ready-failed-fails : Fails ready-failed 1 0
ready-failed-fails =
    let c = ready-failed-computes in
    record { valid = c.0; ready = c.1; lost = λ a. stuck (ap ending c.2) (ap going c.3) a.delivers }

-- ---- alone for its key: another Lookup of 2 waits where it goes, and ends its journey

abbrev pub both-look : Pool
both-look = laid (placed (lookup 2) 0 ∷ placed (lookup 2) 1 ∷ [])

pub met-computes :
    (valid_of pair both-look ≡ true) × Ready pair 0
    × (fate_of pair both-look 0 (Deliver 0) ≡ stays 0) × (fate_of pair both-look 0 (Forward 0) ≡ met 1 0)
unfolding pair opened
met-computes = (refl, (omega arith, refl), refl, refl)

-- a Forward that met its equal is a routing
pub met-counts : routings pair both-look (Forward 0 ∷ []) 0 ≡ 1
unfolding pair opened
met-counts = refl

-- and it waits nowhere then
pub met-nowhere : place_after pair both-look (Forward 0 ∷ []) 0 ≡ None
unfolding pair place_after opened
met-nowhere = refl

-- a Forward of what waits for another slot is none at this one
pub another-forwards : (ForwardsAt both-look 0 (Forward 1) → ⊥) × ForwardsAt both-look 0 (Forward 0)
another-forwards = (not_there, forwards-at refl)
  where
    not_there : ForwardsAt both-look 0 (Forward 1) → ⊥
    not_there (forwards-at e) = omega (arith, e)

pub met-fails : LookupAt both-look 0 2 0 × (Arrives pair both-look 0 2 → ⊥)
met-fails = (record { waits = omega arith; is = refl }, λ a. stuck (ap ending met-computes.2) (ap going met-computes.3) a.delivers)

-- ---- waiting at a ready node: 2 is dead

unfoldable pub one-dead : Table
one-dead = table_of (start_of 2 1 (0 ∷ 2 ∷ []) 1)

pub one-dead-computes :
    (valid_of one-dead (only 2 1) ≡ true) × (is_settled one-dead ≡ true)
    × (fate_of one-dead (only 2 1) 0 (Deliver 0) ≡ stays 0) × (fate_of one-dead (only 2 1) 0 (Forward 0) ≡ stays 0)
unfolding one-dead opened
one-dead-computes = (refl, refl, refl, refl)

pub one-dead-fails : Arrives one-dead (only 2 1) 0 2 → ⊥
one-dead-fails a = stuck (ap ending one-dead-computes.2) (ap going one-dead-computes.3) a.delivers

-- ---- no other step between: the lookup of 2 at 0 is routed to 2, whose lease of 0 expires, and is refused there

unfoldable pub after_all : Table → Pool → List Action → Stepped
after_all t p [] = done_of t p
after_all t p (a ∷ []) = stepped t p a
after_all t p (a ∷ b ∷ acts) = after_all (stepped t p a).table (stepped t p a).pool (b ∷ acts)

pub between-refused : (after_all pair (only 2 0) (Forward 0 ∷ LeaseExpired 1 0 ∷ Deliver 0 ∷ [])).answer ≡ Err no.Status
unfolding pair after_all opened
between-refused = refl

pub between_none : after_all pair (only 2 0) (Forward 0 ∷ Deliver 0 ∷ []) ≡ done_of pair (laid [])
unfolding pair after_all opened
between_none = refl
