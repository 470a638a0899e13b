-- What Take plans is refused or fine, for each message that obeys its kind. The idea: a leaf set after adding obeys the rules for its
-- owner, the sets of other nodes are made of listed sets without the owner, and what is sent carries those. Assumes nothing.
use mathlib.Core.Path.{◌≡◌, refl, ◌∙◌, ap}
use mathlib.Core.Bool.{Bool, true, false, cond, ◌&&◌, not}
use mathlib.Core.List.{List}
use Prim.Native.Nat.{ℕ, ◌+◌, ◌^◌, ◌<◌}
use native.Mathlib.Omega.{arith}
use lib.Dec.{eqb}
use borrow.Author.Tests.{eq-eqb}
use Rattle.marks.specs.Marks.{has, listed, union, without, add_of, remove_of}
use Rattle.marks.proofs.Bools.{and-fails-left, and-fails-right, or-fails, true-not}
use Rattle.marks.proofs.Laws.{has-zero, has-union, has-without, has-remove, listed_has, listed-zero}
use Rattle.marks.proofs.Laws.{listed-union, listed-meet, listed-without, listed-add, listed-remove}
use Rattle.rules.specs.declared.Ring.{Ring}
use Rattle.rules.specs.declared.Sides.{Sides}
use Rattle.rules.specs.declared.Node.{Node}
use Rattle.rules.specs.declared.Message.{Message}
use Rattle.rules.specs.declared.Status.{Status}
use Rattle.rules.specs.declared.Hop.TheVariants.{To}
use Rattle.rules.specs.InnerAsks.{Listed}
use Rattle.rules.specs.Hop.{next_hop}
use Rattle.rules.specs.Fits.{has_node, has_leaf, leaf_fits}
use Rattle.rules.specs.Leaf.{content_of, leaf_with, leaf_with_one}
use Rattle.rules.specs.Letters.{ls_probe, ls_probe_reply}
use Rattle.rules.specs.Nodes.{sides_of, carried_of, placed}
use Rattle.rules.specs.Pick.{id_at}
use Rattle.rules.specs.Pool.{blank}
use Rattle.take.specs.Take.{join_reply_plan, failed_without, probes2, probes_of, learnt_node, probe_plan_of, reply_plan_of, grant_plan, broadcast_plan}
use Rattle.plan.specs.Actions.{is_beside}
use Rattle.take.specs.Take.{plan_deliver, plan_forward, plan_take_join_request, plan_take_join_reply, plan_take_probe, plan_take_probe_reply}
use Rattle.take.specs.Take.{plan_take_lease_request, plan_take_broadcast, plan_take}
use Rattle.rules_laws.proofs.Leaf.{content-listed, leaf-fits, leaf-one-fits}
use Rattle.rules_laws.proofs.Hops.{hop-listed}
use Rattle.table_laws.proofs.Nodes.{LeafRules, OtherRules, NodeRules, leaf-rules, rules-leaf}
use Rattle.table_laws.proofs.Obeys.{Obeys}
use Rattle.table_laws.proofs.Letters.{lookup-fits, join_request-fits, join_reply-fits, ls_probe-fits, ls_probe_reply-fits}
use Rattle.table_laws.proofs.Letters.{no_legal_route-fits, broadcast-fits}
use Rattle.table_laws.proofs.Comes.{by-deliver, by-forward, by-take-join-request, by-take-join-reply, by-take-probe, by-take-probe-reply}
use Rattle.table_laws.proofs.Comes.{by-take-lease-request, by-take-broadcast, by-take}
use Rattle.table_laws.proofs.Plans.{Fits, FinePlan, FinePlanned, none-to, one-to, quiet-fine, send-fine, leases-rules}

-- ---- sets of other nodes

module _ {g : Ring} {i : ℕ} (low : i < 64) where
  pub others-none : OtherRules g i 0
  others-none = record { inside = listed-zero g.n; not_own = has-zero i }

  pub others-of : (a : ℕ) → listed g.n a ≡ true → OtherRules g i (remove_of a i)
  others-of a e =
      record {
        inside = listed-remove g.n a i e;
        not_own = has-remove a i i low ∙ and-fails-right (has a i) (true-not (eq-eqb i i refl));
      }

  pub others-union : {a b : ℕ} → OtherRules g i a → OtherRules g i b → OtherRules g i (union a b)
  others-union {a} {b} p q =
      record {
        inside = listed-union g.n a b p.inside q.inside;
        not_own = has-union a b i low ∙ or-fails p.not_own q.not_own;
      }

  pub others-without : {a : ℕ} (b : ℕ) → OtherRules g i a → OtherRules g i (without a b)
  others-without {a} b p =
      record {
        inside = listed-without g.n a b p.inside;
        not_own = has-without a b i low ∙ and-fails-left (not (has b i)) p.not_own;
      }

  pub others-remove : {a : ℕ} (j : ℕ) → OtherRules g i a → OtherRules g i (remove_of a j)
  others-remove {a} j p =
      record {
        inside = listed-remove g.n a j p.inside;
        not_own = has-remove a j i low ∙ and-fails-left (not (eqb i j)) p.not_own;
      }

-- ---- leaf sets

pub leaf-content : {g : Ring} {i : ℕ} {s : Sides} → LeafRules g i s → i < g.n → listed g.n (content_of s i) ≡ true
leaf-content {g} {i} {s} r h = content-listed g.n s i r.left.inside r.right.inside h

module _ {g : Ring} {ids : List ℕ} (l : Listed g ids) {i : ℕ} (hi : i < g.n) {v : Node} (r : NodeRules g i v) where
  low : i < 64
  low = omega (arith, l.n-high)

  -- a leaf set with D added, and the node's with j added
  with-rules : (s : Sides) (d : ℕ) → LeafRules g i (leaf_with g ids i s d)
  with-rules s d = leaf-rules g i _ (leaf-fits l i hi s d)

  with-one-rules : (j : ℕ) → LeafRules g i (leaf_with_one g ids i (sides_of v) j)
  with-one-rules j = leaf-rules g i _ (leaf-one-fits l i hi (sides_of v) j (rules-leaf r.leaf))

  pub hop-in : (dead k h : ℕ) → next_hop g ids dead i v k ≡ To h → h < g.n
  hop-in dead k h e = hop-listed g ids dead i v k g.n h r.leaf.left.inside r.leaf.right.inside r.routing hi e

  -- ---- 1 Lookup

  pub fine-deliver : (kind k : ℕ) → FinePlanned g i v (plan_deliver kind g ids i v k)
  fine-deliver kind k = by-deliver kind g ids i v k (λ _. tt) tt (quiet-fine refl r)

  pub fine-forward : (kind dead k hops : ℕ) → (kind ≡ 1 → k < 2 ^ g.m) → FinePlanned g i v (plan_forward kind g ids dead i v k hops)
  fine-forward kind dead k hops hk =
      by-forward kind g ids dead i v k hops (λ _. tt) tt (λ is h e. send-fine refl r (lookup-fits g h (hop-in dead k h e) (hops + 1) k (hk is)))
      (λ is _. send-fine refl r (no_legal_route-fits g i hi k (hk is)))

  -- ---- 2 JoinRequest

  pub fine-take-join-request : (dead j routing : ℕ) → j < g.n → listed g.n routing ≡ true
      → FinePlanned g i v (plan_take_join_request g ids dead i v j routing)
  fine-take-join-request dead j routing hj e =
      let k = id_at ids j in
      let hk : k < 2 ^ g.m = l.ids-in j (omega (arith, l.n-high)) in
      by-take-join-request g ids dead i v j routing tt tt
      (send-fine refl r (join_reply-fits g j hj routing i (sides_of v) e hi (rules-leaf r.leaf)))
      (λ h q. send-fine refl r (join_request-fits g h (hop-in dead k h q) j _ hj (listed-union g.n routing v.routing e r.routing)))
      (λ _. send-fine refl r (no_legal_route-fits g i hi k hk))

  -- ---- 3 JoinReply

  fine-joined : (routing content : ℕ) → listed g.n routing ≡ true → listed g.n content ≡ true
      → FinePlan g i v (join_reply_plan i v routing content (leaf_with g ids i (sides_of v) content))
  fine-joined routing content e c =
      let s = leaf_with g ids i (sides_of v) content in
      let leaf = with-rules (sides_of v) content in
      let probing = others-of {g = g} low (content_of s i) (leaf-content leaf hi) in
      record {
        same_id = refl;
        rules = record {
          leaf = leaf;
          probing = probing;
          failed = others-none low;
          routing = listed-union g.n v.routing (union routing content) r.routing (listed-union g.n routing content e c);
          lease = r.lease;
          grant = r.grant;
        };
        mail = record {
          one = λ t. none-to (Fits g) blank t;
          rest = λ t h p. ls_probe-fits g t (listed_has g.n _ t probing.inside h p) i s 0 hi (rules-leaf leaf) (listed-zero g.n);
        };
      }

  pub fine-take-join-reply : (m : Message) → m.owner < g.n → leaf_fits g m.owner (carried_of m) ≡ true
      → listed g.n m.routing ≡ true → FinePlanned g i v (plan_take_join_reply g ids i v m)
  fine-take-join-reply m h f e =
      by-take-join-reply g ids i v m tt tt tt (fine-joined m.routing _ e (leaf-content (leaf-rules g m.owner (carried_of m) f) h))

  -- ---- 4 LSProbe and 5 LSProbeReply

  probes-rules : (s : Sides) (f : ℕ) (m : Message) → LeafRules g i s → OtherRules g i (probes_of g ids i v s f m)
  unfolding probes_of probes2
  probes-rules s f m leaf =
      let one = listed-meet g.n (content_of s i) m.failed (leaf-content leaf hi) in
      let more = without (content_of (carried_of m) m.owner) f in
      let two = listed-without g.n _ (content_of s i) (leaf-content (with-rules s more) hi) in
      others-of low _ (listed-without g.n _ (union v.probing f) (listed-union g.n _ _ one two))

  learnt-rules : (j : ℕ) {s : Sides} {f p : ℕ} (st : Status) → j < g.n → LeafRules g i s → OtherRules g i f → OtherRules g i p
      → NodeRules g i (learnt_node v j s f p st)
  learnt-rules j st h leaf failed probing =
      record {
        leaf = leaf;
        probing = probing;
        failed = failed;
        routing = listed-add g.n v.routing j r.routing h;
        lease = r.lease;
        grant = r.grant;
      }

  module _ (m : Message) (h : m.word < g.n) where
    -- F, S and P
    abbrev trusted : ℕ
    trusted = failed_without v m.word

    abbrev heard : Sides
    heard = leaf_with_one g ids i (sides_of v) m.word

    abbrev asked : ℕ
    asked = probes_of g ids i v heard trusted m

    trusted-rules : OtherRules g i trusted
    trusted-rules = others-remove low m.word r.failed

    heard-rules : LeafRules g i heard
    heard-rules = with-one-rules m.word

    asked-rules : OtherRules g i asked
    asked-rules = probes-rules heard trusted m heard-rules

    -- an LSProbe(S, F) to each of P
    asked-fit : (t : ℕ) → t < 64 → has asked t ≡ true → Fits g (placed (ls_probe i heard trusted) t)
    asked-fit t k e =
        let there = listed_has g.n asked t asked-rules.inside k e in
        ls_probe-fits g t there i heard trusted hi (rules-leaf heard-rules) trusted-rules.inside

    fine-probe : FinePlan g i v (probe_plan_of g ids i v m)
    unfolding probe_plan_of
    fine-probe =
        let reply = ls_probe_reply-fits g m.word h i heard trusted hi (rules-leaf heard-rules) trusted-rules.inside in
        record {
          same_id = refl;
          rules = learnt-rules m.word v.status h heard-rules trusted-rules (others-union low r.probing asked-rules);
          mail = record { one = λ t. one-to (Fits g) (ls_probe_reply i heard trusted) m.word t reply; rest = asked-fit };
        }

    pub fine-take-probe : FinePlanned g i v (plan_take_probe g ids i v m)
    fine-take-probe = by-take-probe g ids i v m tt tt tt fine-probe

    fine-reply : FinePlan g i v (reply_plan_of g ids i v m)
    unfolding reply_plan_of
    fine-reply =
        let probing = others-without {g = g} low v.failed (others-union low r.probing asked-rules) in
        record {
          same_id = refl;
          rules = learnt-rules m.word _ h heard-rules trusted-rules (others-remove low m.word probing);
          mail = record { one = λ t. none-to (Fits g) blank t; rest = asked-fit };
        }

    pub fine-take-probe-reply : FinePlanned g i v (plan_take_probe_reply g ids i v m)
    fine-take-probe-reply = by-take-probe-reply g ids i v m tt tt tt fine-reply

  -- ---- 7 LeaseRequest

  pub fine-take-lease-request : (j : ℕ) → j < g.n → FinePlanned g i v (plan_take_lease_request g ids i v j)
  fine-take-lease-request j h = by-take-lease-request g ids i v j tt tt granted
    where
      granted : (near : Bool) → FinePlan g i v (grant_plan i v j near)
      granted true =
          send-fine refl (leases-rules r v.lease _ v.status r.lease (listed-add g.n v.grant j r.grant h))
          (broadcast-fits g j h i (sides_of v) 1 hi (rules-leaf r.leaf) (omega arith))
      granted false =
          send-fine refl (leases-rules r v.lease _ v.status r.lease r.grant)
          (broadcast-fits g j h i (sides_of v) 0 hi (rules-leaf r.leaf) (omega arith))

  -- ---- 8 BroadcastLSet

  lease-listed : (b : Bool) (j : ℕ) → j < g.n → listed g.n (cond b (add_of v.lease j) v.lease) ≡ true
  lease-listed true j h = listed-add g.n v.lease j r.lease h
  lease-listed false j h = r.lease

  fine-broadcast : (m : Message) → m.owner < g.n → FinePlan g i v (broadcast_plan g ids i v m)
  unfolding broadcast_plan
  fine-broadcast m h =
      let d = without (content_of (carried_of m) m.owner) v.failed in
      let s = leaf_with g ids i (sides_of v) d in
      quiet-fine refl (record {
        leaf = with-rules (sides_of v) d;
        probing = r.probing;
        failed = r.failed;
        routing = r.routing;
        lease = lease-listed (eqb m.flag 1 && is_beside g ids i s m.owner) m.owner h;
        grant = r.grant;
      })

  pub fine-take-broadcast : (m : Message) → m.owner < g.n → FinePlanned g i v (plan_take_broadcast g ids i v m)
  fine-take-broadcast m h = by-take-broadcast g ids i v m tt tt tt (fine-broadcast m h)

  -- ---- by kind

  pub fine-take : (dead : ℕ) {m : Message} → Obeys g m → FinePlanned g i v (plan_take m.kind g ids dead i v m)
  fine-take dead {m} o =
      by-take m.kind g ids dead i v m o.kind-low o.kind-high
      (λ _. tt)
      (λ e. fine-take-join-request dead m.word m.routing (o.node_in_lem (ap has_node e)) o.routing-listed)
      (λ e. fine-take-join-reply m (o.owner-in (ap has_leaf e)) (o.carried-fits (ap has_leaf e)) o.routing-listed)
      (λ e. fine-take-probe m (o.node_in_lem (ap has_node e)))
      (λ e. fine-take-probe-reply m (o.node_in_lem (ap has_node e)))
      (λ _. tt)
      (λ e. fine-take-lease-request m.word (o.node_in_lem (ap has_node e)))
      (λ e. fine-take-broadcast m (o.owner-in (ap has_leaf e)))
