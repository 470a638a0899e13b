-- The rules of one slot as records: what side_fits, leaf_fits, others_fit and node_fits tell of their sets, and back. Assumes nothing.
use mathlib.Core.Path.{◌≡◌}
use mathlib.Core.Bool.{Bool, true, false, ◌&&◌}
use Prim.Native.Nat.{ℕ, ◌≤◌}
use borrow.Author.Tests.{leb-true, le-leb, not-true}
use Rattle.marks.proofs.Bools.{and_left, and_right, and_both, false-not}
use Rattle.marks.specs.Marks.{has, size_of, listed}
use Rattle.rules.specs.declared.Node.{Node}
use Rattle.rules.specs.declared.Ring.{Ring}
use Rattle.rules.specs.declared.Sides.{Sides}
use Rattle.rules.specs.Fits.{side_fits, leaf_fits, others_fit, node_fits}
use Rattle.rules.specs.Nodes.{sides_of}

-- both parts of a test hold
pub both : (a b : Bool) → (a && b) ≡ true → (a ≡ true) × (b ≡ true)
both a b e = (and_left a b e, and_right a b e)

-- ---- a side: at most L marks, none at n or above, and not its owner's

pub record SideRules (g : Ring) (owner side : ℕ) : Type 0 where
  pub inside : listed g.n side ≡ true
  pub few : size_of side ≤ g.l
  pub not_own : has side owner ≡ false

pub side-rules : (g : Ring) (owner side : ℕ) → side_fits g owner side ≡ true → SideRules g owner side
unfolding side_fits
side-rules g owner side e =
    let p = both _ _ e in
    let q = both _ _ p.1 in
    record { inside = p.0; few = leb-true _ _ q.0; not_own = not-true _ q.1 }

pub rules-side : {g : Ring} {owner side : ℕ} → SideRules g owner side → side_fits g owner side ≡ true
unfolding side_fits
rules-side {g} {owner} {side} r = rw (r.inside, le-leb (size_of side) g.l r.few, r.not_own)

-- ---- a leaf set, a node's own or a carried one

pub record LeafRules (g : Ring) (owner : ℕ) (s : Sides) : Type 0 where
  pub left : SideRules g owner s.left
  pub right : SideRules g owner s.right

pub leaf-rules : (g : Ring) (owner : ℕ) (s : Sides) → leaf_fits g owner s ≡ true → LeafRules g owner s
unfolding leaf_fits
leaf-rules g owner s e =
    let p = both _ _ e in
    record { left = side-rules g owner s.left p.0; right = side-rules g owner s.right p.1 }

pub rules-leaf : {g : Ring} {owner : ℕ} {s : Sides} → LeafRules g owner s → leaf_fits g owner s ≡ true
unfolding leaf_fits
rules-leaf r = and_both (rules-side r.left) (rules-side r.right)

-- ---- a set of other nodes

pub record OtherRules (g : Ring) (i set : ℕ) : Type 0 where
  pub inside : listed g.n set ≡ true
  pub not_own : has set i ≡ false

pub other-rules : (g : Ring) (i set : ℕ) → others_fit g i set ≡ true → OtherRules g i set
unfolding others_fit
other-rules g i set e = let p = both _ _ e in record { inside = p.0; not_own = not-true _ p.1 }

pub rules-other : {g : Ring} {i set : ℕ} → OtherRules g i set → others_fit g i set ≡ true
unfolding others_fit
rules-other r = and_both r.inside (false-not r.not_own)

-- ---- a node

pub record NodeRules (g : Ring) (i : ℕ) (v : Node) : Type 0 where
  pub leaf : LeafRules g i (sides_of v)
  pub probing : OtherRules g i v.probing
  pub failed : OtherRules g i v.failed
  pub routing : listed g.n v.routing ≡ true
  pub lease : listed g.n v.lease ≡ true
  pub grant : listed g.n v.grant ≡ true

pub node-rules : (g : Ring) (i : ℕ) (v : Node) → node_fits g i v ≡ true → NodeRules g i v
unfolding node_fits
node-rules g i v e =
    let p = both _ _ e in
    let q = both _ _ p.1 in
    let r = both _ _ q.1 in
    let known = both _ _ r.1 in
    let held = both _ _ known.1 in
    record {
      leaf = leaf-rules g i (sides_of v) p.0;
      probing = other-rules g i v.probing q.0;
      failed = other-rules g i v.failed r.0;
      routing = known.0;
      lease = held.0;
      grant = held.1;
    }

pub rules-node : {g : Ring} {i : ℕ} {v : Node} → NodeRules g i v → node_fits g i v ≡ true
unfolding node_fits
rules-node r =
    and_both (rules-leaf r.leaf)
    (and_both (rules-other r.probing) (and_both (rules-other r.failed) (and_both r.routing (and_both r.lease r.grant))))
