-- Sets of one and two members, and what a set of one, two or more holds besides the members that one knows. The idea: those are taken out,
-- and the rest is counted. Assumes nothing.
use mathlib.Core.Path.{◌≡◌, refl, sym, ◌∙◌, ap}
use mathlib.Core.Logic.{⊎_elim}
use mathlib.Core.Bool.{true, false, not}
use Prim.Native.Nat.{ℕ, ◌<◌, ◌≤◌}
use native.Mathlib.Omega.{arith}
use lib.Dec.{eqb}
use borrow.Author.Tests.{ne_eqb, eqb-false, not-true}
use Rattle.marks.proofs.Bools.{opposed, bool_same, and_left, and_right, and_both, or_left, or_cases, false-not, eq-or-ne}
use Rattle.marks.specs.Marks.{has, single, add_of, remove_of, size_of}
use Rattle.marks.proofs.Laws.{has-single, has-add, has-remove, remove-below, member}
use Rattle.marks.proofs.Laws.{size-gather, size_same, size-zero, size_none, size-add, size-remove, tally-none, tally-add}

-- ---- one and two

size-single : (x : ℕ) → x < 64 → size_of (single x) ≡ 1
unfolding single
size-single x h =
    size-gather 64 (λ s. eqb s x) (omega arith)
    ∙ omega (arith, tally-add 64 (λ s. false) x h refl, tally-none 64 (λ s. false) (λ s l. refl))

pub size-twice : (x : ℕ) → x < 64 → size_of (add_of (single x) x) ≡ 1
size-twice x h = size_same (add_of (single x) x) (single x) same ∙ size-single x h
  where
    same : (s : ℕ) → s < 64 → has (add_of (single x) x) s ≡ has (single x) s
    same s l = rw (has-add (single x) x s l, has-single x s l) (bool_same _ _ (λ e. ⊎_elim (λ q. q) (λ q. q) (or_cases _ _ e)) (or_left _))

pub size-pair : (x y : ℕ) → x < 64 → y < 64 → (x ≡ y → ⊥) → size_of (add_of (single x) y) ≡ 2
size-pair x y h l d =
    omega (arith, size-add (single x) y l (has-single x y l ∙ ne_eqb y x (λ e. d (sym e))), size-single x h)

-- ---- besides those known

module _ (a x : ℕ) (hx : x < 64) (p : has a x ≡ true) where
  rest_has : (y : ℕ) → y < 64 → has a y ≡ true → (y ≡ x → ⊥) → has (remove_of a x) y ≡ true
  rest_has y l e d = has-remove a x y l ∙ and_both e (false-not (ne_eqb y x d))

  rest-told : (y : ℕ) → y < 64 → has (remove_of a x) y ≡ true → (has a y ≡ true) × (y ≡ x → ⊥)
  rest-told y l e =
      let b = sym (has-remove a x y l) ∙ e in
      (and_left (has a y) (not (eqb y x)) b, eqb-false y x (not-true (eqb y x) (and_right (has a y) (not (eqb y x)) b)))

  -- a set of one has no other
  pub no_other : size_of a ≡ 1 → (y : ℕ) → y < 64 → has a y ≡ true → y ≡ x
  no_other one y l q =
      ⊎_elim (λ d. d)
      (λ d. absurd (opposed (rest_has y l q d) (size_none (remove_of a x) y (omega (arith, size-remove a x hx p)) l))) (eq-or-ne y x)

  -- a set of two or more has one
  some-other : 2 ≤ size_of a → (y : ℕ) × (y < 64) × (has a y ≡ true) × (y ≡ x → ⊥)
  some-other two =
      let none : remove_of a x ≡ 0 → ⊥ = λ e. omega (arith, size-remove a x hx p, ap size_of e ∙ size-zero) in
      let (y, l, q) = member (remove_of a x) (remove-below a x) (omega (arith, none)) in
      let b = rest-told y l q in
      (y, l, b.0, b.1)

module _ (a x y : ℕ) (hx : x < 64) (hy : y < 64) (p : has a x ≡ true) (q : has a y ≡ true) (apart : y ≡ x → ⊥) where
  -- a set of two has no third
  pub no_third : size_of a ≡ 2 → (z : ℕ) → z < 64 → has a z ≡ true → (z ≡ x → ⊥) → z ≡ y
  no_third two z l r d =
      no_other (remove_of a x) y hy (rest_has a x hx p y hy q apart) (omega (arith, size-remove a x hx p)) z l (rest_has a x hx p z l r d)

  -- a set of three or more has one
  pub some-third : 3 ≤ size_of a → (z : ℕ) × (z < 64) × (has a z ≡ true) × (z ≡ x → ⊥) × (z ≡ y → ⊥)
  some-third three =
      let (z, l, r, d) = some-other (remove_of a x) y hy (rest_has a x hx p y hy q apart) (omega (arith, size-remove a x hx p)) in
      let b = rest-told a x hx p z l r in
      (z, l, b.0, b.1, d)
