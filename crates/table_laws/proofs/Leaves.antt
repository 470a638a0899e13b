-- What the plans of departures and repairs keep (T-03): each is fine, as those of Plans are. A node that leaves or resigns has no set, or itself for routing; one
-- whose probe timed out fails another than itself; a member that goes leaves smaller sides. A repair probes the far end of a side that is not
-- empty, so a member of it, and hence not the node itself. Assumes nothing.
use mathlib.Core.Path.{◌≡◌, refl, sym, ◌∙◌, ap}
use mathlib.Core.Bool.{Bool, true, false, cond, ◌&&◌, not}
use mathlib.Core.List.{List}
use Prim.Native.Nat.{ℕ, ◌<◌}
use native.Mathlib.Omega.{arith}
use lib.Dec.{eqb, ltb}
use borrow.Author.Tests.{ne_eqb, eqb-false}
use Rattle.marks.specs.Marks.{has, listed, single, union, add_of, remove_of, size_of}
use Rattle.marks.proofs.Bools.{opposed, and_left, and-fails-left, or-fails, or-fails-left, or-fails-right}
use Rattle.marks.proofs.Laws.{has-zero, has-single, has-union, has-add, has-remove, listed_has, listed-zero, listed-single, listed-union}
use Rattle.marks.proofs.Laws.{listed-add, listed-remove, size-zero, size_mono, tally-some}
use Rattle.rules.specs.declared.Way.{Way}
use Rattle.rules.specs.declared.Way.TheVariants.{FarUp, FarDown}
use Rattle.rules.specs.declared.Ring.{Ring}
use Rattle.rules.specs.declared.Status.{Status}
use Rattle.rules.specs.declared.Status.TheVariants as status
use Rattle.rules.specs.declared.Node.{Node}
use Rattle.rules.specs.InnerAsks.{Listed}
use Rattle.rules.specs.Leaf.{content_of, seen_from, leftmost, rightmost}
use Rattle.plan.specs.Leave.{emptied, probing_plan, timed_out, without_member, is_bare, lacks_side, ends_to_probe, last_end}
use Rattle.plan.specs.Leave.{plan_node_left, plan_suspect_faulty, plan_probe_time_out, plan_declare_dead, plan_ls_repair, plan_resign_node, plan_recover}
use Rattle.rules.specs.Nodes.{sides_of}
use Rattle.rules.specs.Plans.{quiet_plan}
use Rattle.rules.specs.Pool.{blank}
use Rattle.rules_laws.proofs.Leaf.{seen-listed, seen-member}
use Rattle.table_laws.proofs.Nodes.{SideRules, rules-leaf, OtherRules, NodeRules}
use Rattle.table_laws.proofs.Letters.{join_request-fits, ls_probe-fits}
use Rattle.table_laws.proofs.Comes.{by-node-left, by-suspect-faulty, by-probe-time-out, by-declare-dead, by-ls-repair, by-resign-node, by-recover}
use Rattle.table_laws.proofs.Plans.{Fits, FinePlan, FinePlanned, none-to, quiet-fine, send-fine}

-- ---- sets

-- a set that is not empty has a member
bare-not : (set : ℕ) → is_bare set ≡ false → (s : ℕ) × (s < 64) × (has set s ≡ true)
unfolding size_of
bare-not set e = tally-some 64 (has set) (omega (arith, eqb-false (size_of set) 0 e))

module _ (g : Ring) (i : ℕ) (h64 : i < 64) where
  -- no set
  no-side : SideRules g i 0
  no-side = record { inside = listed-zero g.n; few = omega (arith, size-zero); not_own = has-zero i }

  no_other : OtherRules g i 0
  no_other = record { inside = listed-zero g.n; not_own = has-zero i }

  -- a set without j
  removed-own : (set j : ℕ) → has set i ≡ false → has (remove_of set j) i ≡ false
  removed-own set j e = has-remove set j i h64 ∙ and-fails-left (not (eqb i j)) e

  side-removed : {side : ℕ} (j : ℕ) → SideRules g i side → SideRules g i (remove_of side j)
  side-removed {side} j r =
      record {
        inside = listed-remove g.n side j r.inside;
        few = omega (arith, size_mono (remove_of side j) side (λ s l e. and_left (has side s) _ (sym (has-remove side j s l) ∙ e)), r.few);
        not_own = removed-own side j r.not_own;
      }

  other-removed : {set : ℕ} (j : ℕ) → OtherRules g i set → OtherRules g i (remove_of set j)
  other-removed {set} j r = record { inside = listed-remove g.n set j r.inside; not_own = removed-own set j r.not_own }

  -- a set with another
  other-added : {set : ℕ} (j : ℕ) → j < g.n → eqb i j ≡ false → OtherRules g i set → OtherRules g i (add_of set j)
  other-added {set} j l e r =
      record { inside = listed-add g.n set j r.inside l; not_own = has-add set j i h64 ∙ or-fails r.not_own e }

  other-single : (j : ℕ) → j < g.n → eqb i j ≡ false → OtherRules g i (single j)
  other-single j l e = record { inside = listed-single g.n j l; not_own = has-single j i h64 ∙ e }

  other-joined : {a b : ℕ} → OtherRules g i a → OtherRules g i b → OtherRules g i (union a b)
  other-joined {a} {b} r q =
      record { inside = listed-union g.n a b r.inside q.inside; not_own = has-union a b i h64 ∙ or-fails r.not_own q.not_own }

-- ---- the plans

module _ {g : Ring} {ids : List ℕ} (l : Listed g ids) {i : ℕ} (hi : i < g.n) {v : Node} (r : NodeRules g i v) where
  h64 : i < 64
  h64 = omega (arith, l.n-high)

  empty-rules : (st : Status) (routing : ℕ) → listed g.n routing ≡ true → NodeRules g i (emptied v st routing)
  empty-rules st routing e =
      record {
        leaf = record { left = no-side g i h64; right = no-side g i h64 };
        probing = no_other g i h64;
        failed = no_other g i h64;
        routing = e;
        lease = listed-zero g.n;
        grant = listed-zero g.n;
      }

  pub fine-node-left : FinePlanned g i v (plan_node_left v)
  fine-node-left = by-node-left v tt (quiet-fine refl (empty-rules status.Dead 0 (listed-zero g.n)))

  -- the nodes of a set of others are probed
  probing-fine : {set : ℕ} → OtherRules g i set → FinePlan g i v (probing_plan i v set)
  probing-fine {set} o =
      record {
        same_id = refl;
        rules = record {
          leaf = r.leaf;
          probing = other-joined g i h64 r.probing o;
          failed = r.failed;
          routing = r.routing;
          lease = r.lease;
          grant = r.grant;
        };
        mail = record {
          one = λ s. none-to (Fits g) blank s;
          rest = λ s low e.
              ls_probe-fits g s (listed_has g.n set s o.inside low e) i (sides_of v) v.failed hi (rules-leaf r.leaf) r.failed.inside;
        };
      }

  pub fine-suspect-faulty : (j : ℕ) → j < g.n → FinePlanned g i v (plan_suspect_faulty i v j)
  fine-suspect-faulty j hj = by-suspect-faulty i v j tt tt (λ e. probing-fine (other-single g i h64 j hj e))

  -- a member goes
  member-rules : {w : Node} (j : ℕ) → NodeRules g i w → NodeRules g i (without_member w j)
  member-rules j q =
      record {
        leaf = record { left = side-removed g i h64 j q.leaf.left; right = side-removed g i h64 j q.leaf.right };
        probing = q.probing;
        failed = q.failed;
        routing = q.routing;
        lease = q.lease;
        grant = q.grant;
      }

  time-out-rules : (j : ℕ) → j < g.n → eqb i j ≡ false → NodeRules g i (timed_out v j)
  time-out-rules j hj e =
      record {
        leaf = r.leaf;
        probing = other-removed g i h64 j r.probing;
        failed = other-added g i h64 j hj e r.failed;
        routing = r.routing;
        lease = listed-remove g.n v.lease j r.lease;
        grant = r.grant;
      }

  pub fine-probe-time-out : (j : ℕ) → j < g.n → FinePlanned g i v (plan_probe_time_out i v j)
  fine-probe-time-out j hj = by-probe-time-out i v j tt tt (λ e. go (not (has v.grant j) && has (content_of (sides_of v) i) j) (time-out-rules j hj e))
    where
      go : (b : Bool) → NodeRules g i (timed_out v j) → FinePlan g i v (quiet_plan (cond b (without_member (timed_out v j) j) (timed_out v j)))
      go true q = quiet-fine refl (member-rules j q)
      go false q = quiet-fine refl q

  pub fine-declare-dead : (j : ℕ) → FinePlanned g i v (plan_declare_dead g ids i v j)
  fine-declare-dead j = by-declare-dead g ids i v j tt tt (quiet-fine refl (member-rules j r))

  -- the best of a set that is not empty is a member, so it is not i where i is none
  pub seen_other : (w : Way) (set : ℕ) → is_bare set ≡ false → has set i ≡ false → eqb i (seen_from w g ids i set) ≡ false
  seen_other w set e own =
      let t = bare-not set e in
      ne_eqb i (seen_from w g ids i set)
      (λ same. opposed (ap (has set) same ∙ seen-member l i h64 set t.0 t.1 t.2 w) own)

  end-other : (w : Way) {side : ℕ} → SideRules g i side → is_bare side ≡ false → OtherRules g i (single (seen_from w g ids i side))
  end-other w {side} q e =
      other-single g i h64 (seen_from w g ids i side) (seen-listed w g ids i side g.n q.inside hi) (seen_other w side e q.not_own)

  pub fine-ls-repair : FinePlanned g i v (plan_ls_repair g ids i v)
  unfolding ends_to_probe
  fine-ls-repair =
      by-ls-repair g ids i v tt tt tt
      (λ e. probing-fine (go (short v.left && short v.right) (short v.left && eqb (size_of v.right) g.l) (left e) (right e)))
    where
      short : ℕ → Bool
      short side = ltb (size_of side) g.l

      left : lacks_side (sides_of v) ≡ false → OtherRules g i (single (leftmost g ids i (sides_of v)))
      left e = end-other FarUp r.leaf.left (or-fails-left (is_bare v.left) (is_bare v.right) e)

      right : lacks_side (sides_of v) ≡ false → OtherRules g i (single (rightmost g ids i (sides_of v)))
      right e = end-other FarDown r.leaf.right (or-fails-right (is_bare v.left) (is_bare v.right) e)

      go : (b c : Bool) {lm rm : ℕ} → OtherRules g i lm → OtherRules g i rm → OtherRules g i (cond b (union lm rm) (cond c lm rm))
      go true c p q = other-joined g i h64 p q
      go false true p q = p
      go false false p q = q

  pub fine-resign-node : (waiting : Bool) (n : ℕ) (u : Node) → n < g.n → FinePlanned g i v (plan_resign_node waiting i v n u)
  fine-resign-node waiting n u hn =
      by-resign-node waiting i v n u tt tt tt tt
      (send-fine refl (empty-rules v.status (single i) (listed-single g.n i hi)) (join_request-fits g n hn i 0 hi (listed-zero g.n)))

  pub fine-recover : (some_up : Bool) → FinePlanned g i v (plan_recover some_up g ids i v)
  unfolding last_end
  fine-recover some_up = by-recover some_up g ids i v tt tt tt (λ e. probing-fine (go (is_bare v.left) refl e))
    where
      go : (b : Bool) → is_bare v.left ≡ b → (b && is_bare v.right) ≡ false
          → OtherRules g i (single (cond b (rightmost g ids i (sides_of v)) (leftmost g ids i (sides_of v))))
      go true p e = end-other FarDown r.leaf.right e
      go false p e = end-other FarUp r.leaf.left p
