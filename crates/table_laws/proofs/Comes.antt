-- What each action and kind plans comes to: one of its refusals, or one of its plans. A property of refusals and one of plans are followed
-- along the chain of tests, once for each action and kind; what a step keeps (Plans, Takes), and with which numbers it is refused
-- (Numbers), are both read off these. Assumes nothing.
use Rattle.rules.specs.Shapes.{Planned}
use Rattle.std.specs.Prelude.{Ok, Err}
use mathlib.Core.Path.{◌≡◌, refl}
use mathlib.Core.Bool.{Bool, true, false, cond, ◌&&◌, ◌||◌, not}
use mathlib.Core.List.{List}
use Prim.Native.Nat.{ℕ, ◌+◌, ◌≤◌}
use native.Mathlib.Omega.{arith}
use lib.Dec.{eqb}
use borrow.Author.Tests.{eqb-true, eqb-false, not-false}
use Rattle.marks.proofs.Bools.{or-fails-left, or-fails-right}
use Rattle.marks.specs.Marks.{has, remove_of, single, union}
use Rattle.rules.specs.declared.Ring.{Ring}
use Rattle.rules.specs.declared.Status.TheVariants as status
use Rattle.rules.specs.declared.Node.{Node}
use Rattle.rules.specs.declared.Message.{Message}
use Rattle.rules.specs.declared.Hop.{Hop}
use Rattle.rules.specs.declared.Hop.TheVariants.{To, NoRoute}
use Rattle.rules.specs.declared.Refusal.{Refusal}
use Rattle.rules.specs.declared.Refusal.TheVariants as no
use Rattle.rules.specs.declared.Plan.{Plan}
use Rattle.plan.specs.Actions.{is_neighbour, lease_plan, plan_lookup, plan_join, plan_request_lease, plan_lease_expired, plan_grant_expired}
use Rattle.rules.specs.Hop.{next_hop, via_of}
use Rattle.rules.specs.Leaf.{content_of, leaf_with, is_complete, is_empty, covers_of}
use Rattle.plan.specs.Leave.{emptied, probing_plan, after_time_out, without_member, lacks_side, lacks_both, ends_to_probe, last_end}
use Rattle.plan.specs.Leave.{plan_node_left, plan_suspect_faulty, plan_probe_time_out, plan_declare_dead, plan_ls_repair, plan_resign_node, plan_recover}
use Rattle.rules.specs.Letters.{lookup, lookup_after, join_request, join_reply, no_legal_route}
use Rattle.rules.specs.Nodes.{sides_of, carried_of}
use Rattle.rules.specs.Pick.{id_at}
use Rattle.rules.specs.Plans.{is_dead, is_wait, is_ready, is_ok, is_up, with_status, with_leases, quiet_plan, send_by, send_plan}
use Rattle.take.specs.Take.{forward_plan, join_reply_plan, waits_empty, probe_plan_of, reply_plan_of, grant_plan, broadcast_plan}
use Rattle.take.specs.Take.{plan_deliver, plan_forward, plan_take_join_request, plan_take_join_reply, plan_take_probe, plan_take_probe_reply}
use Rattle.take.specs.Take.{plan_take_lease_request, plan_take_broadcast, plan_take}

-- a refusal has the one property, a plan the other
pub data Comes (Q : Refusal → Type 0) (P : Plan → Type 0) : Planned → Type 0 where
  says-no : {why : Refusal} → Q why → Comes Q P (Err why)
  goes : {x : Plan} → P x → Comes Q P (Ok x)

past : (kind c : ℕ) → c ≤ kind → eqb kind c ≡ false → c + 1 ≤ kind
past kind c l e = omega (arith, eqb-false kind c e)

module _ {Q : Refusal → Type 0} {P : Plan → Type 0} where
  pub no-comes : {what : Planned} → Comes Q P what → (why : Refusal) → what ≡ Err why → Q why
  no-comes (says-no {why = y} q) why e = let d : y ≡ why = cc in rw (← d) q
  no-comes (goes p) why e = absurd (let z : ◌≡◌ {A = ℕ} 0 1 = cc in omega arith)

  pub go-comes : {what : Planned} → Comes Q P what → (x : Plan) → what ≡ Ok x → P x
  go-comes (says-no q) x e = absurd (let z : ◌≡◌ {A = ℕ} 0 1 = cc in omega arith)
  go-comes (goes {x = y} p) x e = let d : y ≡ x = cc in rw (← d) p

  -- refused if a test holds
  unless : (b : Bool) {why : Refusal} {rest : Planned} → Comes Q P (Err why) → Comes Q P rest → Comes Q P (cond b (Err why) rest)
  unless true q f = q
  unless false q f = f

  either : (b : Bool) {one other : Planned} → (b ≡ true → Comes Q P one) → (b ≡ false → Comes Q P other) → Comes Q P (cond b one other)
  either true f g = f refl
  either false f g = g refl

  -- ---- the actions

  pub by-lookup : (waiting : Bool) (i k : ℕ) (v : Node) → Q no.Waits → P (send_plan v (lookup k) i) → Comes Q P (plan_lookup waiting i k v)
  unfolding plan_lookup
  by-lookup waiting i k v three x = unless waiting (says-no three) (goes x)

  pub by-join : (waiting : Bool) (i : ℕ) (v : Node) (seed : ℕ) (u : Node) → Q no.Status → Q no.Waits → Q no.LeafSet
      → P (send_plan (with_status v status.Wait) (join_request i 0) seed) → Comes Q P (plan_join waiting i v seed u)
  unfolding plan_join
  by-join waiting i v seed u two three four x =
      unless (not (is_dead v.status && is_ready u.status)) (says-no two)
      (unless waiting (says-no three) (unless (not (is_empty (sides_of v))) (says-no four) (goes x)))

  pub by-request-lease : (g : Ring) (ids : List ℕ) (i : ℕ) (v : Node) → Q no.Status → Q no.LeafSet → P (lease_plan g ids i v)
      → Comes Q P (plan_request_lease g ids i v)
  unfolding plan_request_lease
  by-request-lease g ids i v two four x =
      unless (not (is_ok v.status)) (says-no two) (unless (is_empty (sides_of v)) (says-no four) (goes x))

  pub by-lease-expired : (g : Ring) (ids : List ℕ) (i : ℕ) (v : Node) (j : ℕ) → Q no.Status → Q no.Partner
      → P (quiet_plan (with_leases v (remove_of v.lease j) v.grant
      (cond (is_ready v.status && is_neighbour g ids i v j) status.Ok v.status)))
      → Comes Q P (plan_lease_expired g ids i v j)
  unfolding plan_lease_expired
  by-lease-expired g ids i v j two five x =
      unless (not (is_up v.status)) (says-no two) (unless (eqb i j || not (has v.lease j)) (says-no five) (goes x))

  pub by-grant-expired : (i : ℕ) (v : Node) (j : ℕ) (u : Node) → Q no.Status → Q no.Partner
      → P (quiet_plan (with_leases v v.lease (remove_of v.grant j) v.status)) → Comes Q P (plan_grant_expired i v j u)
  unfolding plan_grant_expired
  by-grant-expired i v j u two five x =
      unless (not (is_up v.status)) (says-no two)
      (unless (eqb i j || (not (has v.grant j) || has u.lease i)) (says-no five) (goes x))

  -- ---- departures and repairs

  pub by-node-left : (v : Node) → Q no.Status → P (quiet_plan (emptied v status.Dead 0)) → Comes Q P (plan_node_left v)
  unfolding plan_node_left
  by-node-left v two x = unless (is_dead v.status) (says-no two) (goes x)

  pub by-suspect-faulty : (i : ℕ) (v : Node) (j : ℕ) → Q no.Status → Q no.Partner → (eqb i j ≡ false → P (probing_plan i v (single j)))
      → Comes Q P (plan_suspect_faulty i v j)
  unfolding plan_suspect_faulty
  by-suspect-faulty i v j two five x =
      unless (not (is_up v.status)) (says-no two)
      (either (eqb i j || (not (has (content_of (sides_of v) i) j) || (has v.probing j || has v.failed j))) (λ _. says-no five)
      (λ e. goes (x (or-fails-left (eqb i j) _ e))))

  pub by-probe-time-out : (i : ℕ) (v : Node) (j : ℕ) → Q no.Status → Q no.Partner → (eqb i j ≡ false → P (quiet_plan (after_time_out i v j)))
      → Comes Q P (plan_probe_time_out i v j)
  unfolding plan_probe_time_out
  by-probe-time-out i v j two five x =
      unless (is_dead v.status) (says-no two)
      (either (eqb i j || not (has v.probing j)) (λ _. says-no five) (λ e. goes (x (or-fails-left (eqb i j) _ e))))

  pub by-declare-dead : (g : Ring) (ids : List ℕ) (i : ℕ) (v : Node) (j : ℕ) → Q no.Status → Q no.Partner
      → P (quiet_plan (without_member v j)) → Comes Q P (plan_declare_dead g ids i v j)
  unfolding plan_declare_dead
  by-declare-dead g ids i v j two five x =
      unless (not (is_up v.status)) (says-no two)
      (unless (not (has v.failed j && has (content_of (sides_of v) i) j) || (is_neighbour g ids i v j && has v.grant j)) (says-no five) (goes x))

  pub by-ls-repair : (g : Ring) (ids : List ℕ) (i : ℕ) (v : Node) → Q no.Status → Q no.LeafSet → Q no.Partner
      → (lacks_side (sides_of v) ≡ false → P (probing_plan i v (ends_to_probe g ids i (sides_of v)))) → Comes Q P (plan_ls_repair g ids i v)
  unfolding plan_ls_repair
  by-ls-repair g ids i v two four five x =
      unless (not (is_wait v.status)) (says-no two)
      (either (lacks_side (sides_of v) || is_complete g (sides_of v)) (λ _. says-no four)
      (λ e. unless (not (eqb v.probing 0)) (says-no five) (goes (x (or-fails-left (lacks_side (sides_of v)) _ e)))))

  pub by-resign-node : (waiting : Bool) (i : ℕ) (v : Node) (n : ℕ) (u : Node) → Q no.Status → Q no.Waits → Q no.LeafSet → Q no.Partner
      → P (send_plan (emptied v v.status (single i)) (join_request i 0) n) → Comes Q P (plan_resign_node waiting i v n u)
  unfolding plan_resign_node
  by-resign-node waiting i v n u two three four five x =
      unless (not (is_wait v.status && is_ready u.status)) (says-no two)
      (unless waiting (says-no three)
      (unless (not (lacks_side (sides_of v))) (says-no four) (unless (not (eqb v.probing 0)) (says-no five) (goes x))))

  pub by-recover : (some_up : Bool) (g : Ring) (ids : List ℕ) (i : ℕ) (v : Node) → Q no.Status → Q no.LeafSet → Q no.Partner
      → (lacks_both (sides_of v) ≡ false → P (probing_plan i v (single (last_end g ids i (sides_of v))))) → Comes Q P (plan_recover some_up g ids i v)
  unfolding plan_recover
  by-recover some_up g ids i v two four five x =
      unless (not (is_wait v.status) || some_up) (says-no two)
      (either (not (lacks_side (sides_of v)) || lacks_both (sides_of v)) (λ _. says-no four)
      (λ e. unless (not (eqb v.probing 0)) (says-no five) (goes (x (or-fails-right (not (lacks_side (sides_of v))) _ e)))))

  -- ---- Deliver and Forward, and Take by kind

  forward : (hop : Hop) (v : Node) (m : Message) (k i : ℕ) → ((h : ℕ) → hop ≡ To h → P (send_by (via_of i v h) v m h))
      → (hop ≡ NoRoute → P (send_plan v (no_legal_route k) i)) → Comes Q P (Ok (forward_plan hop v m k i))
  forward (To h) v m k i to none = goes (to h refl)
  forward NoRoute v m k i to none = goes (none refl)

  pub by-deliver : (kind : ℕ) (g : Ring) (ids : List ℕ) (i : ℕ) (v : Node) (k : ℕ) → (kind ≡ 1 → Q no.Status) → Q no.Partner → P (quiet_plan v)
      → Comes Q P (plan_deliver kind g ids i v k)
  unfolding plan_deliver
  by-deliver kind g ids i v k two five delivered =
      either (not (eqb kind 1)) (λ _. says-no five) (λ e.
      unless (not (is_ready v.status)) (says-no (two (eqb-true kind 1 (not-false (eqb kind 1) e))))
      (unless (not (covers_of g ids i (sides_of v) k)) (says-no five) (goes delivered)))

  pub by-forward : (kind : ℕ) (g : Ring) (ids : List ℕ) (dead i : ℕ) (v : Node) (k hops : ℕ) → (kind ≡ 1 → Q no.Status) → Q no.Partner
      → (kind ≡ 1 → (h : ℕ) → next_hop g ids dead i v k ≡ To h → P (send_by (via_of i v h) v (lookup_after (hops + 1) k) h))
      → (kind ≡ 1 → next_hop g ids dead i v k ≡ NoRoute → P (send_plan v (no_legal_route k) i))
      → Comes Q P (plan_forward kind g ids dead i v k hops)
  unfolding plan_forward
  by-forward kind g ids dead i v k hops two five to none =
      either (not (eqb kind 1)) (λ _. says-no five) (λ e.
      let is = eqb-true kind 1 (not-false (eqb kind 1) e) in
      unless (not (is_ready v.status)) (says-no (two is))
      (unless (covers_of g ids i (sides_of v) k) (says-no five) (forward (next_hop g ids dead i v k) v (lookup_after (hops + 1) k) k i (to is) (none is))))

  pub by-take-join-request : (g : Ring) (ids : List ℕ) (dead i : ℕ) (v : Node) (j routing : ℕ) → Q no.Status → Q no.Partner
      → P (send_plan v (join_reply routing i (sides_of v)) j)
      → ((h : ℕ) → next_hop g ids dead i v (id_at ids j) ≡ To h → P (send_by (via_of i v h) v (join_request j (union routing v.routing)) h))
      → (next_hop g ids dead i v (id_at ids j) ≡ NoRoute → P (send_plan v (no_legal_route (id_at ids j)) i))
      → Comes Q P (plan_take_join_request g ids dead i v j routing)
  unfolding plan_take_join_request
  by-take-join-request g ids dead i v j routing two five replied to none =
      let k = id_at ids j in
      unless (not (is_ready v.status)) (says-no two)
      (unless (has (content_of (sides_of v) i) j) (says-no five)
      (either (covers_of g ids i (sides_of v) k) (λ _. goes replied)
      (λ _. forward (next_hop g ids dead i v k) v (join_request j (union routing v.routing)) k i to none)))

  pub by-take-join-reply : (g : Ring) (ids : List ℕ) (i : ℕ) (v : Node) (m : Message) → Q no.Status → Q no.LeafSet → Q no.Partner
      → P (join_reply_plan i v m.routing (content_of (carried_of m) m.owner)
      (leaf_with g ids i (sides_of v) (content_of (carried_of m) m.owner)))
      → Comes Q P (plan_take_join_reply g ids i v m)
  unfolding plan_take_join_reply
  by-take-join-reply g ids i v m two four five x =
      unless (is_dead v.status) (says-no two)
      (unless (not (is_empty (sides_of v))) (says-no four) (unless (not (eqb v.probing 0)) (says-no five) (goes x)))

  pub by-take-probe : (g : Ring) (ids : List ℕ) (i : ℕ) (v : Node) (m : Message) → Q no.Status → Q no.LeafSet → Q no.Partner
      → P (probe_plan_of g ids i v m) → Comes Q P (plan_take_probe g ids i v m)
  unfolding plan_take_probe
  by-take-probe g ids i v m two four five x =
      unless (is_dead v.status) (says-no two) (unless (waits_empty v) (says-no four) (unless (eqb m.word i) (says-no five) (goes x)))

  pub by-take-probe-reply : (g : Ring) (ids : List ℕ) (i : ℕ) (v : Node) (m : Message) → Q no.Status → Q no.LeafSet → Q no.Partner
      → P (reply_plan_of g ids i v m) → Comes Q P (plan_take_probe_reply g ids i v m)
  unfolding plan_take_probe_reply
  by-take-probe-reply g ids i v m two four five x =
      unless (is_dead v.status) (says-no two)
      (unless (waits_empty v) (says-no four) (unless (eqb m.word i || not (has v.probing m.word)) (says-no five) (goes x)))

  pub by-take-lease-request : (g : Ring) (ids : List ℕ) (i : ℕ) (v : Node) (j : ℕ) → Q no.Status → Q no.LeafSet
      → ((near : Bool) → P (grant_plan i v j near)) → Comes Q P (plan_take_lease_request g ids i v j)
  unfolding plan_take_lease_request
  by-take-lease-request g ids i v j two four x =
      unless (not (is_up v.status)) (says-no two) (unless (is_empty (sides_of v)) (says-no four) (goes (x (is_neighbour g ids i v j))))

  pub by-take-broadcast : (g : Ring) (ids : List ℕ) (i : ℕ) (v : Node) (m : Message) → Q no.Status → Q no.LeafSet → Q no.Partner
      → P (broadcast_plan g ids i v m) → Comes Q P (plan_take_broadcast g ids i v m)
  unfolding plan_take_broadcast
  by-take-broadcast g ids i v m two four five x =
      unless (not (is_up v.status)) (says-no two)
      (unless (not (is_complete g (sides_of v))) (says-no four) (unless (eqb m.owner i) (says-no five) (goes x)))

  module _ (kind : ℕ) (g : Ring) (ids : List ℕ) (dead i : ℕ) (v : Node) (m : Message) where
    pub by-take : (1 ≤ kind) → (kind ≤ 8) → (kind ≡ 1 → Q no.Partner)
        → (kind ≡ 2 → Comes Q P (plan_take_join_request g ids dead i v m.word m.routing))
        → (kind ≡ 3 → Comes Q P (plan_take_join_reply g ids i v m))
        → (kind ≡ 4 → Comes Q P (plan_take_probe g ids i v m))
        → (kind ≡ 5 → Comes Q P (plan_take_probe_reply g ids i v m))
        → (kind ≡ 6 → Q no.Partner)
        → (kind ≡ 7 → Comes Q P (plan_take_lease_request g ids i v m.word))
        → (kind ≡ 8 → Comes Q P (plan_take_broadcast g ids i v m))
        → Comes Q P (plan_take kind g ids dead i v m)
    unfolding plan_take
    by-take low high one two three four five six seven eight =
        either (eqb kind 1) (λ e. says-no (one (eqb-true kind 1 e))) (λ n1.
        either (eqb kind 2) (λ e. two (eqb-true kind 2 e)) (λ n2.
        either (eqb kind 3) (λ e. three (eqb-true kind 3 e)) (λ n3.
        either (eqb kind 4) (λ e. four (eqb-true kind 4 e)) (λ n4.
        either (eqb kind 5) (λ e. five (eqb-true kind 5 e)) (λ n5.
        either (eqb kind 6) (λ e. says-no (six (eqb-true kind 6 e))) (λ n6.
        either (eqb kind 7) (λ e. seven (eqb-true kind 7 e)) (λ n7.
        either (eqb kind 8) (λ e. eight (eqb-true kind 8 e)) (λ n8.
        let past4 = past kind 4 (past kind 3 (past kind 2 (past kind 1 low n1) n2) n3) n4 in
        absurd (omega (arith, past kind 8 (past kind 7 (past kind 6 (past kind 5 past4 n5) n6) n7) n8))))))))))
