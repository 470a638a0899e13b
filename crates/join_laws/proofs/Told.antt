-- What the tests of each action and kind tell, where it plans something: the node's status, its leaf set and its partner, as far as the
-- clauses ask, and the plan. One law for each action and kind. Assumes nothing.
use Rattle.rules.specs.Shapes.{Planned}
use Rattle.std.specs.Prelude.{Ok, Err}
use mathlib.Core.Path.{◌≡◌, refl}
use mathlib.Core.Logic.{◌⊎◌, inl, inr}
use mathlib.Core.Bool.{Bool, true, false, cond, ◌&&◌, ◌||◌, not}
use mathlib.Core.List.{List}
use Prim.Native.Nat.{ℕ, ◌+◌}
use lib.Dec.{eqb}
use borrow.Author.Tests.{not-false, eqb-false}
use Rattle.marks.proofs.Bools.{or-fails-left}
use Rattle.marks.specs.Marks.{has, remove_of, union, single}
use Rattle.rules.specs.declared.Ring.{Ring}
use Rattle.rules.specs.declared.Status.TheVariants as status
use Rattle.rules.specs.declared.Node.{Node}
use Rattle.rules.specs.declared.Message.{Message}
use Rattle.rules.specs.declared.Refusal.{Refusal}
use Rattle.rules.specs.declared.Plan.{Plan}
use Rattle.plan.specs.Actions.{is_neighbour, lease_plan, plan_lookup, plan_join, plan_request_lease, plan_lease_expired, plan_grant_expired}
use Rattle.rules.specs.Hop.{next_hop}
use Rattle.rules.specs.Leaf.{content_of, leaf_with, is_complete, is_empty, covers_of}
use Rattle.plan.specs.Leave.{emptied, probing_plan, ends_to_probe, last_end, lacks_side, lacks_both}
use Rattle.plan.specs.Leave.{plan_suspect_faulty, plan_declare_dead, plan_ls_repair, plan_resign_node, plan_recover}
use Rattle.rules.specs.Letters.{lookup, lookup_after, join_request, join_reply}
use Rattle.rules.specs.Nodes.{sides_of, carried_of}
use Rattle.rules.specs.Pick.{id_at}
use Rattle.rules.specs.Plans.{is_dead, is_wait, is_ready, is_ok, is_up, with_status, with_leases, quiet_plan, send_plan}
use Rattle.take.specs.Take.{forward_plan, join_reply_plan, waits_empty, probe_plan_of, reply_plan_of, grant_plan, broadcast_plan}
use Rattle.take.specs.Take.{plan_deliver, plan_forward, plan_take_join_request, plan_take_join_reply, plan_take_probe, plan_take_probe_reply}
use Rattle.take.specs.Take.{plan_take_lease_request, plan_take_broadcast}
use Rattle.table_laws.proofs.Nodes.{both}
use Rattle.table_laws.proofs.By.{go_same, never-go}

-- a test that would have refused fails
passed : (b : Bool) (why : Refusal) (rest : Planned) {x : Plan} → cond b (Err why) rest ≡ Ok x → (b ≡ false) × (rest ≡ Ok x)
passed true why rest e = absurd (never-go e)
passed false why rest e = (refl, e)

-- one of two plans
either : (b : Bool) (one : Plan) (other : Planned) {x : Plan} → cond b (Ok one) other ≡ Ok x → ((b ≡ true) × (x ≡ one)) ⊎ (other ≡ Ok x)
either true one other e = inl (refl, go_same e)
either false one other e = inr e

-- ---- the actions

pub told-lookup : (waiting : Bool) (i k : ℕ) (v : Node) (x : Plan) → plan_lookup waiting i k v ≡ Ok x → x ≡ send_plan v (lookup k) i
unfolding plan_lookup
told-lookup waiting i k v x e = go_same (passed waiting _ _ e).1

pub told-join : (waiting : Bool) (i : ℕ) (v : Node) (seed : ℕ) (u : Node) (x : Plan) → plan_join waiting i v seed u ≡ Ok x
    → (is_ready u.status ≡ true) × (is_empty (sides_of v) ≡ true) × (x ≡ send_plan (with_status v status.Wait) (join_request i 0) seed)
unfolding plan_join
told-join waiting i v seed u x e =
    let a = passed (not (is_dead v.status && is_ready u.status)) _ _ e in
    let b = passed waiting _ _ a.1 in
    let c = passed (not (is_empty (sides_of v))) _ _ b.1 in
    ((both (is_dead v.status) (is_ready u.status) (not-false _ a.0)).1, not-false _ c.0, go_same c.1)

pub told-request-lease : (g : Ring) (ids : List ℕ) (i : ℕ) (v : Node) (x : Plan) → plan_request_lease g ids i v ≡ Ok x
    → (is_ok v.status ≡ true) × (x ≡ lease_plan g ids i v)
unfolding plan_request_lease
told-request-lease g ids i v x e =
    let a = passed (not (is_ok v.status)) _ _ e in
    let b = passed (is_empty (sides_of v)) _ _ a.1 in
    (not-false _ a.0, go_same b.1)

pub told-lease-expired : (g : Ring) (ids : List ℕ) (i : ℕ) (v : Node) (j : ℕ) (x : Plan) → plan_lease_expired g ids i v j ≡ Ok x
    → (is_up v.status ≡ true)
    × (x ≡ quiet_plan (with_leases v (remove_of v.lease j) v.grant
    (cond (is_ready v.status && is_neighbour g ids i v j) status.Ok v.status)))
unfolding plan_lease_expired
told-lease-expired g ids i v j x e =
    let a = passed (not (is_up v.status)) _ _ e in
    (not-false _ a.0, go_same (passed (eqb i j || not (has v.lease j)) _ _ a.1).1)

pub told-grant-expired : (i : ℕ) (v : Node) (j : ℕ) (u : Node) (x : Plan) → plan_grant_expired i v j u ≡ Ok x
    → (is_up v.status ≡ true) × (x ≡ quiet_plan (with_leases v v.lease (remove_of v.grant j) v.status))
unfolding plan_grant_expired
told-grant-expired i v j u x e =
    let a = passed (not (is_up v.status)) _ _ e in
    (not-false _ a.0, go_same (passed (eqb i j || (not (has v.grant j) || has u.lease i)) _ _ a.1).1)

-- ---- departures and repairs

pub told-suspect-faulty : (i : ℕ) (v : Node) (j : ℕ) (x : Plan) → plan_suspect_faulty i v j ≡ Ok x
    → (is_up v.status ≡ true) × (x ≡ probing_plan i v (single j))
unfolding plan_suspect_faulty
told-suspect-faulty i v j x e =
    let a = passed (not (is_up v.status)) _ _ e in
    (not-false _ a.0, go_same (passed (eqb i j || (not (has (content_of (sides_of v) i) j) || (has v.probing j || has v.failed j))) _ _ a.1).1)

-- the plan is not asked for
pub told-declare-dead : (g : Ring) (ids : List ℕ) (i : ℕ) (v : Node) (j : ℕ) (x : Plan) → plan_declare_dead g ids i v j ≡ Ok x
    → has v.failed j ≡ true
unfolding plan_declare_dead
told-declare-dead g ids i v j x e =
    let a = passed (not (is_up v.status)) _ _ e in
    let held = has v.failed j && has (content_of (sides_of v) i) j in
    let b = passed (not held || (is_neighbour g ids i v j && has v.grant j)) _ _ a.1 in
    (both (has v.failed j) _ (not-false _ (or-fails-left (not held) _ b.0))).0

pub told-repair : (g : Ring) (ids : List ℕ) (i : ℕ) (v : Node) (x : Plan) → plan_ls_repair g ids i v ≡ Ok x
    → (is_wait v.status ≡ true) × (x ≡ probing_plan i v (ends_to_probe g ids i (sides_of v)))
unfolding plan_ls_repair
told-repair g ids i v x e =
    let a = passed (not (is_wait v.status)) _ _ e in
    let b = passed (lacks_side (sides_of v) || is_complete g (sides_of v)) _ _ a.1 in
    (not-false _ a.0, go_same (passed (not (eqb v.probing 0)) _ _ b.1).1)

pub told-resign : (waiting : Bool) (i : ℕ) (v : Node) (n : ℕ) (u : Node) (x : Plan) → plan_resign_node waiting i v n u ≡ Ok x
    → (is_wait v.status ≡ true) × (is_ready u.status ≡ true) × (lacks_side (sides_of v) ≡ true)
    × (x ≡ send_plan (emptied v v.status (single i)) (join_request i 0) n)
unfolding plan_resign_node
told-resign waiting i v n u x e =
    let a = passed (not (is_wait v.status && is_ready u.status)) _ _ e in
    let b = passed waiting _ _ a.1 in
    let c = passed (not (lacks_side (sides_of v))) _ _ b.1 in
    let d = passed (not (eqb v.probing 0)) _ _ c.1 in
    let (wait, ready) = both (is_wait v.status) (is_ready u.status) (not-false _ a.0) in
    (wait, ready, not-false _ c.0, go_same d.1)

pub told-recover : (some_up : Bool) (g : Ring) (ids : List ℕ) (i : ℕ) (v : Node) (x : Plan) → plan_recover some_up g ids i v ≡ Ok x
    → (is_wait v.status ≡ true) × (x ≡ probing_plan i v (single (last_end g ids i (sides_of v))))
unfolding plan_recover
told-recover some_up g ids i v x e =
    let a = passed (not (is_wait v.status) || some_up) _ _ e in
    let b = passed (not (lacks_side (sides_of v)) || lacks_both (sides_of v)) _ _ a.1 in
    (not-false _ (or-fails-left (not (is_wait v.status)) some_up a.0), go_same (passed (not (eqb v.probing 0)) _ _ b.1).1)

-- ---- Deliver and Forward, and Take by kind

pub told-deliver : (kind : ℕ) (g : Ring) (ids : List ℕ) (i : ℕ) (v : Node) (k : ℕ) (x : Plan) → plan_deliver kind g ids i v k ≡ Ok x → x ≡ quiet_plan v
unfolding plan_deliver
told-deliver kind g ids i v k x e =
    let a = passed (not (eqb kind 1)) _ _ e in
    let b = passed (not (is_ready v.status)) _ _ a.1 in
    go_same (passed (not (covers_of g ids i (sides_of v) k)) _ _ b.1).1

pub told-forward : (kind : ℕ) (g : Ring) (ids : List ℕ) (dead i : ℕ) (v : Node) (k hops : ℕ) (x : Plan)
    → plan_forward kind g ids dead i v k hops ≡ Ok x → x ≡ forward_plan (next_hop g ids dead i v k) v (lookup_after (hops + 1) k) k i
unfolding plan_forward
told-forward kind g ids dead i v k hops x e =
    let a = passed (not (eqb kind 1)) _ _ e in
    let b = passed (not (is_ready v.status)) _ _ a.1 in
    go_same (passed (covers_of g ids i (sides_of v) k) _ _ b.1).1

-- answered, or passed on
pub data Requested (g : Ring) (ids : List ℕ) (dead i : ℕ) (v : Node) (j routing : ℕ) (x : Plan) : Type 0 where
  answered : has (content_of (sides_of v) i) j ≡ false → covers_of g ids i (sides_of v) (id_at ids j) ≡ true
      → x ≡ send_plan v (join_reply routing i (sides_of v)) j → Requested g ids dead i v j routing x
  passed_on : x ≡ forward_plan (next_hop g ids dead i v (id_at ids j)) v (join_request j (union routing v.routing)) (id_at ids j) i
      → Requested g ids dead i v j routing x

pub told-join-request : (g : Ring) (ids : List ℕ) (dead i : ℕ) (v : Node) (j routing : ℕ) (x : Plan)
    → plan_take_join_request g ids dead i v j routing ≡ Ok x → (is_ready v.status ≡ true) × Requested g ids dead i v j routing x
unfolding plan_take_join_request
told-join-request g ids dead i v j routing x e =
    let a = passed (not (is_ready v.status)) _ _ e in
    let b = passed (has (content_of (sides_of v) i) j) _ _ a.1 in
    (not-false _ a.0, go b.0 (either (covers_of g ids i (sides_of v) (id_at ids j)) _ _ b.1))
  where
    onwards : Plan
    onwards = forward_plan (next_hop g ids dead i v (id_at ids j)) v (join_request j (union routing v.routing)) (id_at ids j) i

    go : has (content_of (sides_of v) i) j ≡ false
        → ((covers_of g ids i (sides_of v) (id_at ids j) ≡ true) × (x ≡ send_plan v (join_reply routing i (sides_of v)) j)) ⊎ (◌≡◌ {A = Planned} (Ok onwards) (Ok x))
        → Requested g ids dead i v j routing x
    go out (inl p) = answered out p.0 p.1
    go out (inr p) = passed_on (go_same p)

pub told-join-reply : (g : Ring) (ids : List ℕ) (i : ℕ) (v : Node) (m : Message) (x : Plan) → plan_take_join_reply g ids i v m ≡ Ok x
    → (is_dead v.status ≡ false) × (is_empty (sides_of v) ≡ true)
    × (x ≡ join_reply_plan i v m.routing (content_of (carried_of m) m.owner)
    (leaf_with g ids i (sides_of v) (content_of (carried_of m) m.owner)))
unfolding plan_take_join_reply
told-join-reply g ids i v m x e =
    let a = passed (is_dead v.status) _ _ e in
    let b = passed (not (is_empty (sides_of v))) _ _ a.1 in
    let c = passed (not (eqb v.probing 0)) _ _ b.1 in
    (a.0, not-false _ b.0, go_same c.1)

pub told-probe : (g : Ring) (ids : List ℕ) (i : ℕ) (v : Node) (m : Message) (x : Plan) → plan_take_probe g ids i v m ≡ Ok x
    → (is_dead v.status ≡ false) × (waits_empty v ≡ false) × (m.word ≡ i → ⊥) × (x ≡ probe_plan_of g ids i v m)
unfolding plan_take_probe
told-probe g ids i v m x e =
    let a = passed (is_dead v.status) _ _ e in
    let b = passed (waits_empty v) _ _ a.1 in
    let c = passed (eqb m.word i) _ _ b.1 in
    (a.0, b.0, eqb-false m.word i c.0, go_same c.1)

pub told-probe-reply : (g : Ring) (ids : List ℕ) (i : ℕ) (v : Node) (m : Message) (x : Plan) → plan_take_probe_reply g ids i v m ≡ Ok x
    → (is_dead v.status ≡ false) × (waits_empty v ≡ false) × (m.word ≡ i → ⊥) × (x ≡ reply_plan_of g ids i v m)
unfolding plan_take_probe_reply
told-probe-reply g ids i v m x e =
    let a = passed (is_dead v.status) _ _ e in
    let b = passed (waits_empty v) _ _ a.1 in
    let c = passed (eqb m.word i || not (has v.probing m.word)) _ _ b.1 in
    (a.0, b.0, eqb-false m.word i (or-fails-left (eqb m.word i) (not (has v.probing m.word)) c.0), go_same c.1)

pub told-lease-request : (g : Ring) (ids : List ℕ) (i : ℕ) (v : Node) (j : ℕ) (x : Plan) → plan_take_lease_request g ids i v j ≡ Ok x
    → (is_up v.status ≡ true) × (x ≡ grant_plan i v j (is_neighbour g ids i v j))
unfolding plan_take_lease_request
told-lease-request g ids i v j x e =
    let a = passed (not (is_up v.status)) _ _ e in
    (not-false _ a.0, go_same (passed (is_empty (sides_of v)) _ _ a.1).1)

-- whether the leaf set is complete is not asked
pub told-broadcast : (g : Ring) (ids : List ℕ) (i : ℕ) (v : Node) (m : Message) (x : Plan) → plan_take_broadcast g ids i v m ≡ Ok x
    → (is_up v.status ≡ true) × (m.owner ≡ i → ⊥) × (x ≡ broadcast_plan g ids i v m)
unfolding plan_take_broadcast
told-broadcast g ids i v m x e =
    let a = passed (not (is_up v.status)) _ _ e in
    let b = passed (not (is_complete g (sides_of v))) _ _ a.1 in
    let c = passed (eqb m.owner i) _ _ b.1 in
    (not-false _ a.0, eqb-false m.owner i c.0, go_same c.1)
