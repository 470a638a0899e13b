-- Which leaf sets are complete, as T-02 has it. The idea: of a set D added to an empty leaf set each side holds the L nearest, so where D has L nodes
-- other than the owner both sides are full, and where it has fewer, but one, both hold all of them and share it. Where n is at most L + 1 a side has room
-- for every other node, so a node that is told of all of them holds each on both sides. Assumes nothing.
use mathlib.Core.Path.{◌≡◌, refl}
use mathlib.Core.Logic.{◌⊎◌, inl, inr, ⊎_elim}
use mathlib.Core.List.{List}
use mathlib.Core.Bool.{Bool, true, false, ◌&&◌, ◌||◌, not, and-false}
use Prim.Native.Nat.{ℕ, ◌+◌, ◌<◌, ◌≤◌}
use native.Mathlib.Omega.{arith}
use native.Mathlib.Nat.{lt_of_lt_of_le}
use borrow.Author.Tests.{eq-eqb, ne_eqb, eqb-true, lt-ltb, ltb-true, not-true}
use lib.Dec.{eqb, ltb}
use Rattle.marks.specs.Marks.{has, tally, size_of}
use Rattle.marks.proofs.Bools.{opposed, bool_cases, bool_false, and_left, and_right, and_both, or_left, or_right, or_cases, lt-or-le}
use Rattle.marks.proofs.Laws.{has-zero, size-zero, size-gather, listed_has}
use Rattle.marks.proofs.Slots.{tally-mono, tally-strict, tally-le}
use Rattle.rules.specs.declared.Ring.{Ring}
use Rattle.rules.specs.declared.Sides.{Sides}
use Rattle.rules.specs.InnerAsks.{Listed}
use Rattle.rules.specs.Closest.{nearer_than, closest}
use Rattle.rules.specs.Leaf.{way_up, way_down, joined_with, leaf_with, overlaps, is_full, is_complete, is_empty}
use Rattle.rules.specs.Letters.{no_sides}
use Rattle.rules_laws.proofs.Closest.{Most, nearest, closest-all}
use Rattle.rules_laws.proofs.Leaf.{Joined, left-fits, right-fits, leaf-fits, leaf-left, leaf-right, left-from, right-from, overlaps-of, overlaps-at, empty-sides, empty_of}
use Rattle.rules_laws.proofs.Leaf.{leaf-left-below, leaf-right-below}

-- ---- full, and complete

pub full-sizes : (g : Ring) (s : Sides) → is_full g s ≡ true → (size_of s.left ≡ g.l) × (size_of s.right ≡ g.l)
unfolding is_full
full-sizes g s e = (
  eqb-true _ _ (and_left (eqb (size_of s.left) g.l) (eqb (size_of s.right) g.l) e),
  eqb-true _ _ (and_right (eqb (size_of s.left) g.l) (eqb (size_of s.right) g.l) e),
)

pub full-of : (g : Ring) (s : Sides) → size_of s.left ≡ g.l → size_of s.right ≡ g.l → is_full g s ≡ true
unfolding is_full
full-of g s p q = and_both (eq-eqb _ _ p) (eq-eqb _ _ q)

pub full-complete : (g : Ring) (s : Sides) → is_full g s ≡ true → is_complete g s ≡ true
unfolding is_complete
full-complete g s e = or_left (overlaps s) e

pub overlap-complete : (g : Ring) (s : Sides) → overlaps s ≡ true → is_complete g s ≡ true
unfolding is_complete
overlap-complete g s e = or_right (is_full g s) e

-- a complete leaf set is not empty
pub complete-filled : (g : Ring) (s : Sides) → 1 ≤ g.l → is_complete g s ≡ true → is_empty s ≡ false
unfolding is_complete
complete-filled g s one e =
    bool_false (is_empty s) (λ z. ⊎_elim (λ f. full (rw (empty-sides s z) at (full-sizes g s f))) (λ o. shared z (overlaps-at s o)) (or_cases (is_full g s) (overlaps s) e))
  where
    full : (size_of 0 ≡ g.l) × (size_of 0 ≡ g.l) → ⊥
    full p = omega (arith, p.0, size-zero)

    shared : is_empty s ≡ true → (t : ℕ) × (t < 64) × (has s.left t ≡ true) × (has s.right t ≡ true) → ⊥
    shared z (t, h, p, q) = opposed (rw (empty-sides s z) at p) (has-zero t)

-- ---- as many as there is room for

-- where l pass or more, l are selected: the nearest one that is not has l nearer than it, and those are
pub closest-full : (f : ℕ → ℕ) (n l : ℕ) (ok : ℕ → Bool) → n ≤ 64 → l ≤ tally n ok → l ≤ size_of (closest f n l ok)
unfolding closest
closest-full f n l ok m many = rw (size-gather n _ m) (go (nearest f n left))
  where
    chosen : ℕ → Bool
    chosen s = ok s && ltb (nearer_than f n ok s) l

    left : ℕ → Bool
    left s = ok s && not (chosen s)

    go : ((t : ℕ) × Most (λ a b. f a ≤ f b) n left t) ⊎ ((s : ℕ) → s < n → left s ≡ false) → l ≤ tally n chosen
    go (inr none) = omega (arith, many, tally-mono n ok chosen each)
      where
        each : (s : ℕ) → s < n → ok s ≡ true → chosen s ≡ true
        each s h p = ⊎_elim (λ q. q) (λ q. absurd (opposed (and_both p (rw q)) (none s h))) (bool_cases (chosen s))
    go (inl (t, i)) = omega (arith, few, tally-mono n (λ u. ok u && ltb (f u) (f t)) chosen nearer)
      where
        passes : ok t ≡ true
        passes = and_left (ok t) (not (chosen t)) i.holds

        few : l ≤ nearer_than f n ok t
        few = ⊎_elim (λ q. absurd (opposed (and_both passes q) (not-true (chosen t) (and_right (ok t) (not (chosen t)) i.holds)))) (λ q. not-below q)
            (bool_cases (ltb (nearer_than f n ok t) l))
          where
            not-below : ltb (nearer_than f n ok t) l ≡ false → l ≤ nearer_than f n ok t
            not-below q = ⊎_elim (λ h. absurd (opposed (lt-ltb _ _ h) q)) (λ h. h) (lt-or-le (nearer_than f n ok t) l)

        nearer : (u : ℕ) → u < n → (ok u && ltb (f u) (f t)) ≡ true → chosen u ≡ true
        nearer u h p =
            let a = and_left (ok u) (ltb (f u) (f t)) p in
            let b = ltb-true (f u) (f t) (and_right (ok u) (ltb (f u) (f t)) p) in
            ⊎_elim (λ q. q) (λ q. absurd (omega (arith, b, i.tops u h (and_both a (rw q))))) (bool_cases (chosen u))

-- ---- a set added to an empty leaf set

module _ {g : Ring} {ids : List ℕ} (v : Listed g ids) (i : ℕ) (hi : i < g.n) where
  -- the nodes of D other than i
  abbrev others : ℕ → ℕ → Bool
  others d = joined_with 0 d i

  other-passes : (side d j : ℕ) → has d j ≡ true → (j ≡ i → ⊥) → joined_with side d i j ≡ true
  other-passes side d j p e = and_both (or_right (has side j) p) (rw (ne_eqb j i e))

  -- complete where D has a node other than i ..
  pub new-complete : (d j : ℕ) → j < g.n → has d j ≡ true → (j ≡ i → ⊥) → is_complete g (leaf_with g ids i no_sides d) ≡ true
  new-complete d j hj p e = ⊎_elim many few (lt-or-le (tally g.n (others d)) g.l)
    where
      s : Sides
      s = leaf_with g ids i no_sides d

      same : {a b : ℕ} → a ≤ b → b ≤ a → a ≡ b
      same p q = omega arith

      few : g.l ≤ tally g.n (others d) → is_complete g s ≡ true
      few h =
          let f = leaf-fits v i hi no_sides d in
          let l = closest-full (way_up g ids i) g.n g.l (others d) v.n-high h in
          let r = closest-full (way_down g ids i) g.n g.l (others d) v.n-high h in
          full-complete g s
          (full-of g s (same (left-fits g i s f).few (rw (← leaf-left g ids i no_sides d) at l))
          (same (right-fits g i s f).few (rw (← leaf-right g ids i no_sides d) at r)))

      many : tally g.n (others d) < g.l → is_complete g s ≡ true
      many h =
          let ok = other-passes 0 d j p e in
          let l = closest-all (way_up g ids i) g.n g.l (others d) (omega arith) j hj ok in
          let r = closest-all (way_down g ids i) g.n g.l (others d) (omega arith) j hj ok in
          overlap-complete g s
          (overlaps-of s j (omega (arith, v.n-high)) (rw (← leaf-left g ids i no_sides d) at l) (rw (← leaf-right g ids i no_sides d) at r))

  -- .. and only there
  pub complete-new : (d : ℕ) → 1 ≤ g.l → is_complete g (leaf_with g ids i no_sides d) ≡ true
      → ((j : ℕ) → j < g.n → has d j ≡ true → j ≡ i) → ⊥
  complete-new d one e none = opposed (empty_of s (leaf-left-below v i hi no_sides d) (leaf-right-below v i hi no_sides d) lacks) (complete-filled g s one e)
    where
      s : Sides
      s = leaf_with g ids i no_sides d

      no : (t : ℕ) → t < g.n → Joined 0 d i t → ⊥
      no t h j = ⊎_elim (λ z. opposed z (has-zero t)) (λ p. j.other (none t h p)) j.from

      lacks : (t : ℕ) → t < 64 → (has s.left t ≡ false) × (has s.right t ≡ false)
      lacks t h = (
        bool_false (has s.left t) (λ p. no t (listed_has g.n s.left t (left-fits g i s (leaf-fits v i hi no_sides d)).marks h p) (left-from g ids i no_sides d t p)),
        bool_false (has s.right t) (λ p. no t (listed_has g.n s.right t (right-fits g i s (leaf-fits v i hi no_sides d)).marks h p) (right-from g ids i no_sides d t p)),
      )

  -- ---- n at most L + 1

  -- fewer than n pass, since i does not
  few-pass : (side d : ℕ) → tally g.n (joined_with side d i) < g.n
  few-pass side d =
      lt_of_lt_of_le
      (tally-strict g.n (joined_with side d i) (λ s. true) i (λ s h p. refl) hi (rw (eq-eqb i i refl) (and-false (has side i || has d i))) refl)
      (tally-le g.n (λ s. true))

  -- a node that is told of another holds it on both sides, and so its leaf set is complete, whatever it held before
  pub few-complete : (s : Sides) (d j : ℕ) → g.n ≤ g.l + 1 → j < g.n → has d j ≡ true → (j ≡ i → ⊥) → is_complete g (leaf_with g ids i s d) ≡ true
  few-complete s d j small hj p e =
      let l = closest-all (way_up g ids i) g.n g.l (joined_with s.left d i) (omega (arith, few-pass s.left d)) j hj (other-passes s.left d j p e) in
      let r = closest-all (way_down g ids i) g.n g.l (joined_with s.right d i) (omega (arith, few-pass s.right d)) j hj (other-passes s.right d j p e) in
      overlap-complete g (leaf_with g ids i s d)
      (overlaps-of (leaf_with g ids i s d) j (omega (arith, v.n-high)) (rw (← leaf-left g ids i s d) at l) (rw (← leaf-right g ids i s d) at r))
