-- Laws of guarding. Where a set is joined to a leaf set, what stands nearest on a side afterwards is at least as near as all that was
-- joined and all that stood there (`closest-some`), so guarding is never lost, and begins against what is joined. Read at the neighbours,
-- a node that guards against another is flanked by them. Assumes nothing.
use mathlib.Core.Path.{◌≡◌, refl, sym, ◌∙◌, ap}
use mathlib.Core.Logic.{◌⊎◌, inl, inr, ⊎_elim}
use mathlib.Core.List.{List}
use mathlib.Core.Bool.{Bool, true, false, cond, ◌||◌}
use Prim.Native.Nat.{ℕ, ◌<◌, ◌≤◌}
use native.Mathlib.Nat.{le_trans, le_refl}
use native.Mathlib.Omega.{arith}
use lib.Dec.{eqb}
use borrow.Author.Tests.{eqb-true, ne_eqb, eq-eqb}
use Rattle.marks.specs.Marks.{has, single}
use Rattle.marks.proofs.Bools.{opposed, and_both, or_left, or_right, or_cases, false-not, bool_false}
use Rattle.marks.proofs.Laws.{has-single, member-pos}
use Rattle.rules.specs.declared.Way.TheVariants.{Up, Down}
use Rattle.rules.specs.declared.Ring.{Ring}
use Rattle.rules.specs.declared.Sides.{Sides}
use Rattle.rules.specs.InnerAsks.{Listed}
use Rattle.rules.specs.Closest.{closest}
use Rattle.rules.specs.Leaf.{content_of, leaf_with, leaf_with_one, is_empty, way_up, way_down, joined_with, left_neighbour, right_neighbour}
use Rattle.rules_laws.proofs.Closest.{closest-some}
use Rattle.rules_laws.proofs.Leaf.{has-content, left-from, right-from, seen_up, seen-down, seen-member, empty-sides}
use Rattle.table_laws.proofs.Nodes.{LeafRules}
use Rattle.join_laws.specs.Clauses.{Within, Guards}

-- ---- one side

module _ (f : ℕ → ℕ) (n l side d i : ℕ) (one : 1 ≤ l) where
  -- with D joined, something stands at least as near as each node of the side or of D but i
  within-joined : (u y : ℕ) → u < n → (has side u || has d u) ≡ true → (u ≡ i → ⊥) → f u ≤ f y
      → Within f n (closest f n l (joined_with side d i)) y
  within-joined u y h p apart near =
      let (t, most, chosen) = closest-some f n l (joined_with side d i) one u h (and_both p (false-not (ne_eqb u i apart))) in
      (t, most.below, chosen, le_trans (most.tops u h (and_both p (false-not (ne_eqb u i apart)))) near)

  -- what was near stays near
  within-kept : (y : ℕ) → has side i ≡ false → Within f n side y → Within f n (closest f n l (joined_with side d i)) y
  within-kept y out (u, h, p, near) =
      within-joined u y h (or_left (has d u) p) (λ e. opposed p (rw e out)) near

-- ---- adding a set, and one node

-- a guard against y is one against what is as far or farther, each way
pub guards-past : {g : Ring} {ids : List ℕ} {x : ℕ} {s : Sides} {a b y : ℕ} → Guards g ids x s a → Guards g ids x s b
    → way_up g ids x a ≤ way_up g ids x y → way_down g ids x b ≤ way_down g ids x y → Guards g ids x s y
guards-past p q up down =
    let (u, hu, mu, nu) = p.up in
    let (v, hv, mv, nv) = q.down in
    record { up = (u, hu, mu, le_trans nu up); down = (v, hv, mv, le_trans nv down) }

-- a leaf set that guards is not empty
pub guards-filled : {g : Ring} {ids : List ℕ} {x : ℕ} {s : Sides} {y : ℕ} → Guards g ids x s y → is_empty s ≡ false
guards-filled {s = s} p =
    bool_false (is_empty s) (λ e.
    let (u, h, m, near) = p.up in
    let zero : s.left ≡ 0 = ap (λ (z : Sides). z.left) (empty-sides s e) in
    omega (arith, member-pos s.left u m))

module _ (g : Ring) (ids : List ℕ) (one : 1 ≤ g.l) (x : ℕ) (s : Sides) where
  pub near_up : (d u y : ℕ) → u < g.n → has d u ≡ true → (u ≡ x → ⊥) → way_up g ids x u ≤ way_up g ids x y
      → Within (way_up g ids x) g.n (leaf_with g ids x s d).left y
  unfolding leaf_with
  near_up d u y h p apart near =
      within-joined (way_up g ids x) g.n g.l s.left d x one u y h (or_right (has s.left u) p) apart near

  pub near_down : (d u y : ℕ) → u < g.n → has d u ≡ true → (u ≡ x → ⊥) → way_down g ids x u ≤ way_down g ids x y
      → Within (way_down g ids x) g.n (leaf_with g ids x s d).right y
  unfolding leaf_with
  near_down d u y h p apart near =
      within-joined (way_down g ids x) g.n g.l s.right d x one u y h (or_right (has s.right u) p) apart near

  pub guards-new : (d y : ℕ) → y < g.n → has d y ≡ true → (y ≡ x → ⊥) → Guards g ids x (leaf_with g ids x s d) y
  guards-new d y h p apart =
      record { up = near_up d y y h p apart (le_refl _); down = near_down d y y h p apart (le_refl _) }

  module _ (fit : LeafRules g x s) where
    pub guards-add : (d y : ℕ) → Guards g ids x s y → Guards g ids x (leaf_with g ids x s d) y
    unfolding leaf_with
    guards-add d y p =
        record {
          up = within-kept (way_up g ids x) g.n g.l s.left d x one y fit.left.not_own p.up;
          down = within-kept (way_down g ids x) g.n g.l s.right d x one y fit.right.not_own p.down;
        }

    pub guards-one : (j y : ℕ) → Guards g ids x s y → Guards g ids x (leaf_with_one g ids x s j) y
    unfolding leaf_with_one
    guards-one j y p = go (has (content_of s x) j)
      where
        go : (b : Bool) → Guards g ids x (cond b s (leaf_with g ids x s (single j))) y
        go true = p
        go false = guards-add (single j) y p

  -- the one that is added, or stood there
  pub guards-that : (j : ℕ) → j < g.n → g.n ≤ 64 → (j ≡ x → ⊥)
      → ((has s.left j ≡ true) ⊎ (has s.right j ≡ true) → Guards g ids x s j) → Guards g ids x (leaf_with_one g ids x s j) j
  unfolding leaf_with_one
  guards-that j h n apart old = go (has (content_of s x) j) refl
    where
      low : j < 64
      low = omega arith

      beside : has (content_of s x) j ≡ true → (has s.left j ≡ true) ⊎ (has s.right j ≡ true)
      beside e =
          ⊎_elim (or_cases (has s.left j) (has s.right j)) (λ q. absurd (apart (eqb-true j x q)))
          (or_cases (has s.left j || has s.right j) (eqb j x) (sym (has-content s x j low) ∙ e))

      go : (b : Bool) → has (content_of s x) j ≡ b → Guards g ids x (cond b s (leaf_with g ids x s (single j))) j
      go true e = old (beside e)
      go false e = guards-new (single j) j h (has-single j j low ∙ eq-eqb j j refl) apart

  -- who is in a side once one is added
  pub one_left : (j y : ℕ) → y < 64 → has (leaf_with_one g ids x s j).left y ≡ true → (has s.left y ≡ true) ⊎ (y ≡ j)
  unfolding leaf_with_one
  one_left j y h p = go (has (content_of s x) j) p
    where
      go : (b : Bool) → has (cond b s (leaf_with g ids x s (single j))).left y ≡ true → (has s.left y ≡ true) ⊎ (y ≡ j)
      go true e = inl e
      go false e = ⊎_elim inl (λ q. inr (eqb-true y j (sym (has-single j y h) ∙ q))) (left-from g ids x s (single j) y e).from

  pub one_right : (j y : ℕ) → y < 64 → has (leaf_with_one g ids x s j).right y ≡ true → (has s.right y ≡ true) ⊎ (y ≡ j)
  unfolding leaf_with_one
  one_right j y h p = go (has (content_of s x) j) p
    where
      go : (b : Bool) → has (cond b s (leaf_with g ids x s (single j))).right y ≡ true → (has s.right y ≡ true) ⊎ (y ≡ j)
      go true e = inl e
      go false e = ⊎_elim inl (λ q. inr (eqb-true y j (sym (has-single j y h) ∙ q))) (right-from g ids x s (single j) y e).from

-- ---- at the neighbours

-- the neighbours of x are as close as y, and are not x
pub record Flank (g : Ring) (ids : List ℕ) (x : ℕ) (s : Sides) (y : ℕ) : Type 0 where
  pub left : way_up g ids x (left_neighbour g ids x s) ≤ way_up g ids x y
  pub right : way_down g ids x (right_neighbour g ids x s) ≤ way_down g ids x y
  pub left_other : left_neighbour g ids x s ≡ x → ⊥
  pub right-other : right_neighbour g ids x s ≡ x → ⊥
  pub left_in : has s.left (left_neighbour g ids x s) ≡ true
  pub right-in : has s.right (right_neighbour g ids x s) ≡ true

pub guards-flank : {g : Ring} {ids : List ℕ} → Listed g ids → {x : ℕ} → x < g.n → {s : Sides} → LeafRules g x s → {y : ℕ}
    → Guards g ids x s y → Flank g ids x s y
guards-flank {g} {ids} v {x} h {s} fit {y} p =
    let (a, ha, ma, na) = p.up in
    let (b, hb, mb, nb) = p.down in
    let low : x < 64 = omega (arith, v.n-high) in
    let la : a < 64 = omega (arith, v.n-high) in
    let lb : b < 64 = omega (arith, v.n-high) in
    record {
      left = le_trans (seen_up v x low s.left a la ma) na;
      right = le_trans (seen-down v x low s.right b lb mb) nb;
      left_other = λ e. opposed (seen-member v x low s.left a la ma Up) (rw e fit.left.not_own);
      right-other = λ e. opposed (seen-member v x low s.right b lb mb Down) (rw e fit.right.not_own);
      left_in = seen-member v x low s.left a la ma Up;
      right-in = seen-member v x low s.right b lb mb Down;
    }
