-- The listed nodes as one set, so that a set is tested against it at once: nothing is left of a set of listed nodes without them,
-- nor of a set of other nodes without the others. Assumes nothing.
use mathlib.Core.Path.{◌≡◌, refl, sym, ◌∙◌}
use mathlib.Core.Logic.{◌⊎◌, inl, inr, ⊎_elim}
use mathlib.Core.Bool.{true, false, ◌&&◌, not, and_assoc, and_comm}
use Prim.Native.Nat.{ℕ, zero, suc, ◌+◌, ◌^◌, ◌<◌, ◌≤◌}
use native.Mathlib.Omega.{arith}
use borrow.Author.Tests.{eqb-true, eq-eqb, ne_eqb, not-true}
use lib.Dec.{eqb, leb}
use Rattle.marks.specs.Marks.{has, gather, without, remove_of, size_of, listed}
use Rattle.marks.proofs.Bools.{opposed, bool_cases, bool_false, bool_same, and_left, and_right, and_both, and-fails-right, false-not, true-not, lt-or-le}
use Rattle.marks.proofs.Laws.{has-gather, gather-high, has-without, has-remove, has_within, without-below, empty, empty-has, listed_has, listed_of}
use Rattle.rules.specs.declared.Ring.{Ring}
use Rattle.rules.specs.Fits.{others_fit, side_fits}
use Rattle.table_valid.specs.InnerNodes.{all_nodes, is_part}

pub all-number : (n : ℕ) → all_nodes n + 1 ≡ 2 ^ n
unfolding all_nodes gather
all-number zero = refl
all-number (suc n) = omega (arith, all-number n)

all-has : (n s : ℕ) → s < n → has (all_nodes n) s ≡ true
unfolding all_nodes
all-has n s h = has-gather n (λ t. true) s h

all-high : (n s : ℕ) → n ≤ s → has (all_nodes n) s ≡ false
unfolding all_nodes
all-high n s h = gather-high n (λ t. true) s h

all-below : (n s : ℕ) → has (all_nodes n) s ≡ true → s < n
all-below n s p = ⊎_elim (λ h. h) (λ h. absurd (opposed p (all-high n s h))) (lt-or-le s n)

-- ---- parts of a set

part-has : (whole x s : ℕ) → is_part whole x ≡ true → s < 64 → has x s ≡ true → has whole s ≡ true
part-has whole x s e h p = go (bool_cases (has whole s))
  where
    none : has (without x whole) s ≡ false
    none = empty-has (without x whole) s (eqb-true (without x whole) 0 e)

    go : (has whole s ≡ true) ⊎ (has whole s ≡ false) → has whole s ≡ true
    go (inl q) = q
    go (inr q) = absurd (opposed (has-without x whole s h ∙ and_both p (false-not q)) none)

part_of : (whole x : ℕ) → ((s : ℕ) → s < 64 → has x s ≡ true → has whole s ≡ true) → is_part whole x ≡ true
part_of whole x f =
    eq-eqb (without x whole) 0 (empty (without x whole) (without-below x whole) (λ s h. has-without x whole s h ∙ gone s h (bool_cases (has x s))))
  where
    gone : (s : ℕ) → s < 64 → (has x s ≡ true) ⊎ (has x s ≡ false) → (has x s && not (has whole s)) ≡ false
    gone s h (inl p) = and-fails-right (has x s) (true-not (f s h p))
    gone s h (inr p) = rw p

-- the listed nodes are those below n
pub part-listed : (n x : ℕ) → is_part (all_nodes n) x ≡ listed n x
part-listed n x =
    bool_same (is_part (all_nodes n) x) (listed n x) (λ e. listed_of n x (λ s h p. all-below n s (part-has (all_nodes n) x s e h p)))
    (λ e. part_of (all_nodes n) x (λ s h p. all-has n s (listed_has n x s e h p)))

-- the others are the listed nodes but one
module _ (g : Ring) (i x : ℕ) where
  abbrev others : ℕ
  others = remove_of (all_nodes g.n) i

  member : (s : ℕ) → is_part others x ≡ true → s < 64 → has x s ≡ true → (has (all_nodes g.n) s && not (eqb s i)) ≡ true
  member s e h p = sym (has-remove (all_nodes g.n) i s h) ∙ part-has others x s e h p

  there : x < 2 ^ 64 → is_part others x ≡ true → (listed g.n x && not (has x i)) ≡ true
  there b e =
      let mine : has x i ≡ true → ⊥ =
      λ p. opposed (eq-eqb i i refl) (not-true (eqb i i) (and_right (has (all_nodes g.n) i) _ (member i e (has_within x i b p) p))) in
      and_both (listed_of g.n x (λ s h p. all-below g.n s (and_left _ (not (eqb s i)) (member s e h p))))
      (false-not (bool_false (has x i) mine))

  back : (listed g.n x && not (has x i)) ≡ true → is_part others x ≡ true
  back e =
      let within = and_left (listed g.n x) (not (has x i)) e in
      let mine : has x i ≡ false = not-true (has x i) (and_right (listed g.n x) (not (has x i)) e) in
      part_of others x (λ s h p.
      has-remove (all_nodes g.n) i s h
      ∙ and_both (all-has g.n s (listed_has g.n x s within h p)) (false-not (ne_eqb s i (λ d. opposed p (rw d mine)))))

  pub part-others : x < 2 ^ 64 → is_part others x ≡ others_fit g i x
  unfolding others_fit
  part-others b = bool_same (is_part others x) (listed g.n x && not (has x i)) (there b) back

  pub part-side : x < 2 ^ 64 → (is_part others x && leb (size_of x) g.l) ≡ side_fits g i x
  unfolding others_fit side_fits
  part-side b = rw (part-others b, and_assoc, and_comm (not (has x i)))
