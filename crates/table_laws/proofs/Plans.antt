-- What every plan keeps. A plan is fine (FinePlan) where its node has the old id and obeys the node rules, and each message that it adds
-- obeys its kind. Here for the five actions besides Take, whose kinds are in Takes. Assumes nothing.
use Rattle.rules.specs.Shapes.{Planned}
use Rattle.std.specs.Prelude.{Some, None}
use mathlib.Core.Path.{◌≡◌, refl}
use mathlib.Core.Bool.{Bool, true, false, cond}
use mathlib.Core.List.{List}
use Prim.Native.Nat.{ℕ, ◌^◌, ◌<◌}
use native.Mathlib.Omega.{arith}
use Rattle.marks.specs.Marks.{has, listed, single}
use Rattle.marks.proofs.Bools.{opposed}
use Rattle.marks.proofs.Laws.{has-zero, listed_has, listed-zero, listed-remove, listed-single, listed-without}
use Rattle.rules.specs.declared.Way.TheVariants.{Up, Down}
use Rattle.rules.specs.declared.Ring.{Ring}
use Rattle.rules.specs.declared.Status.{Status}
use Rattle.rules.specs.declared.Status.TheVariants as status
use Rattle.rules.specs.declared.Node.{Node}
use Rattle.rules.specs.declared.Message.{Message}
use Rattle.rules.specs.declared.Plan.{Plan}
use Rattle.plan.specs.Actions.{unless_in, lease_plan, plan_lookup, plan_join, plan_request_lease, plan_lease_expired, plan_grant_expired}
use Rattle.rules.specs.Fits.{node_fits, message_fits}
use Rattle.rules.specs.Leaf.{left_neighbour, right_neighbour}
use Rattle.rules.specs.Letters.{lease_request}
use Rattle.rules.specs.Nodes.{sides_of, placed}
use Rattle.rules.specs.declared.Via.{Via}
use Rattle.rules.specs.Plans.{with_status, with_leases, quiet_plan, send_by}
use Rattle.rules.specs.Pool.{blank}
use Rattle.rules_laws.proofs.Leaf.{seen-listed}
use Rattle.pool_laws.proofs.Laws.{Fine}
use Rattle.table_laws.proofs.Nodes.{NodeRules, rules-node}
use Rattle.table_laws.proofs.Letters.{lookup-fits, join_request-fits, lease_request-fits}
use Rattle.table_laws.proofs.Comes.{Comes, by-lookup, by-join, by-request-lease, by-lease-expired, by-grant-expired}

-- ---- fine plans

-- a message obeys its kind
abbrev pub Fits : Ring → Message → Type 0
Fits g m = message_fits g m ≡ true

-- the plan x for node v at slot i
pub record FinePlan (g : Ring) (i : ℕ) (v : Node) (x : Plan) : Type 0 where
  pub same_id : x.node.id ≡ v.id
  pub rules : NodeRules g i x.node
  pub mail : Fine (Fits g) x

pub fine-fits : {g : Ring} {i : ℕ} {v : Node} {x : Plan} → FinePlan g i v x → node_fits g i x.node ≡ true
fine-fits f = rules-node f.rules

-- what is planned is refused, or fine
abbrev pub FinePlanned : Ring → ℕ → Node → Planned → Type 0
FinePlanned g i v what = Comes (λ _. Unit {0}) (FinePlan g i v) what

-- nothing is sent to the slots of no set, and none to a slot where there is none
pub none-sent : (P : Message → Type 0) (m : Message) (s : ℕ) → has 0 s ≡ true → P (placed m s)
none-sent P m s e = absurd (opposed e (has-zero s))

pub none-to : (P : Message → Type 0) (m : Message) (s : ℕ) → None ≡ Some s → P (placed m s)
none-to P m s e = absurd (let z : ◌≡◌ {A = ℕ} 0 1 = cc in omega arith)

pub one-to : (P : Message → Type 0) (m : Message) (h s : ℕ) → P (placed m h) → Some h ≡ Some s → P (placed m s)
one-to P m h s p e = let d : h ≡ s = cc in rw (← d) p

-- to a slot that is none of a set
pub unless-to : (P : Message → Type 0) (m : Message) (set h s : ℕ) → P (placed m h) → unless_in set h ≡ Some s → P (placed m s)
unless-to P m set h s p = go (has set h)
  where
    go : (b : Bool) → cond b None (Some h) ≡ Some s → P (placed m s)
    go true e = none-to P m s e
    go false e = one-to P m h s p e

module _ {g : Ring} {i : ℕ} {v : Node} where
  -- a plan that sends nothing, and one that sends one message
  pub quiet-fine : {w : Node} → w.id ≡ v.id → NodeRules g i w → FinePlan g i v (quiet_plan w)
  quiet-fine e r =
      record { same_id = e; rules = r; mail = record { one = λ s. none-to (Fits g) blank s; rest = λ s l. none-sent (Fits g) blank s } }

  pub send-fine : {via : Via} {w : Node} {m : Message} {h : ℕ} → w.id ≡ v.id → NodeRules g i w → Fits g (placed m h)
      → FinePlan g i v (send_by via w m h)
  send-fine {m = m} {h = h} e r f =
      record { same_id = e; rules = r; mail = record { one = λ s. one-to (Fits g) m h s f; rest = λ s l. none-sent (Fits g) blank s } }

-- the node with another status, lease or grant
pub status-rules : {g : Ring} {i : ℕ} {v : Node} → NodeRules g i v → (st : Status) → NodeRules g i (with_status v st)
status-rules r st =
    record { leaf = r.leaf; probing = r.probing; failed = r.failed; routing = r.routing; lease = r.lease; grant = r.grant }

pub leases-rules : {g : Ring} {i : ℕ} {v : Node} → NodeRules g i v → (lease grant : ℕ) (st : Status) → listed g.n lease ≡ true
    → listed g.n grant ≡ true → NodeRules g i (with_leases v lease grant st)
leases-rules r lease grant st a b =
    record { leaf = r.leaf; probing = r.probing; failed = r.failed; routing = r.routing; lease = a; grant = b }

-- ---- the actions

module _ {g : Ring} {i : ℕ} (hi : i < g.n) {v : Node} (r : NodeRules g i v) where
  pub fine-lookup : (waiting : Bool) (k : ℕ) → k < 2 ^ g.m → FinePlanned g i v (plan_lookup waiting i k v)
  fine-lookup waiting k h = by-lookup waiting i k v tt (send-fine refl r (lookup-fits g i hi 0 k h))

  pub fine-join : (waiting : Bool) (seed : ℕ) (u : Node) → seed < g.n → FinePlanned g i v (plan_join waiting i v seed u)
  fine-join waiting seed u h =
      by-join waiting i v seed u tt tt tt
      (send-fine refl (status-rules r status.Wait) (join_request-fits g seed h i 0 hi (listed-zero g.n)))

  -- the neighbours are slots below n
  pub left_in : (ids : List ℕ) → left_neighbour g ids i (sides_of v) < g.n
  left_in ids = seen-listed Up g ids i v.left g.n r.leaf.left.inside hi

  pub right-in : (ids : List ℕ) → right_neighbour g ids i (sides_of v) < g.n
  right-in ids = seen-listed Down g ids i v.right g.n r.leaf.right.inside hi

  fine-lease : (ids : List ℕ) → FinePlan g i v (lease_plan g ids i v)
  unfolding lease_plan
  fine-lease ids =
      let left = left_neighbour g ids i (sides_of v) in
      let right = right_neighbour g ids i (sides_of v) in
      let asked = listed-without g.n (single right) v.lease (listed-single g.n right (right-in ids)) in
      record {
        same_id = refl;
        rules = r;
        mail = record {
          one = λ s. unless-to (Fits g) (lease_request i) v.lease left s (lease_request-fits g left (left_in ids) i hi);
          rest = λ s l e. lease_request-fits g s (listed_has g.n _ s asked l e) i hi;
        };
      }

  pub fine-request-lease : (ids : List ℕ) → FinePlanned g i v (plan_request_lease g ids i v)
  fine-request-lease ids = by-request-lease g ids i v tt tt (fine-lease ids)

  pub fine-lease-expired : (ids : List ℕ) (j : ℕ) → FinePlanned g i v (plan_lease_expired g ids i v j)
  fine-lease-expired ids j =
      by-lease-expired g ids i v j tt tt
      (quiet-fine refl (leases-rules r _ _ _ (listed-remove g.n v.lease j r.lease) r.grant))

  pub fine-grant-expired : (j : ℕ) (u : Node) → FinePlanned g i v (plan_grant_expired i v j u)
  fine-grant-expired j u =
      by-grant-expired i v j u tt tt
      (quiet-fine refl (leases-rules r _ _ _ r.lease (listed-remove g.n v.grant j r.grant)))
