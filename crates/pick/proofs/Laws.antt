-- The loop of `best`: members below some slot b are looked at, and rest holds those from b on. Taking the lowest of rest passes over no member. Assumes nothing.
use Rattle.std.specs.Prelude.{Some, None}
use mathlib.Core.Path.{◌≡◌, refl, sym, ◌∙◌, ap}
use mathlib.Core.Logic.{◌⊎◌, inl, inr}
use mathlib.Core.Bool.{Bool, true, false, ◌&&◌, not}
use Prim.Native.Nat.{ℕ, ◌+◌, ◌^◌, ◌<◌, ◌≤◌}
use native.Mathlib.Omega.{arith}
use lib.Dec.{leb, eqb}
use borrow.Author.Tests.{le-leb, lt-leb, eq-eqb, ne_eqb, leb-true}
use Rattle.marks.specs.Marks.{has, remove_of, lowest_of, size_of, Found}
use Rattle.marks.proofs.Bools.{and_left, and_right, and_both, bool_false, opposed, lt-or-le, eq-or-ne}
use Rattle.marks.proofs.Laws.{First, has-remove, lowest-found, lowest-none, has-zero, size-remove, remove-below}
use Rattle.rules.specs.Pick.{better_of, best}
use Rattle.rules_laws.proofs.Best.{best-took, best-skip}

pub record Looked (ahead : ℕ → ℕ → Bool) (set : ℕ) (found : Found) (rest : ℕ) : Type 0 where
  pub fits : rest < 2 ^ 64
  pub upto : ℕ
  pub high : upto ≤ 64
  pub left : (s : ℕ) → s < 64 → has rest s ≡ (has set s && leb upto s)
  pub same : found ≡ best ahead (has set) upto

and-true : (b : Bool) → b ≡ (b && true)
and-true true = refl
and-true false = refl

module _ (ahead : ℕ → ℕ → Bool) (set : ℕ) where
  pub look-begin : set < 2 ^ 64 → Looked ahead set None set
  unfolding best
  look-begin l =
      record {
        fits = l;
        upto = 0;
        high = omega arith;
        left = λ s h. and-true (has set s) ∙ ap (λ (b : Bool). has set s && b) (sym (le-leb 0 s (omega arith)));
        same = refl;
      }

  module _ (found : Found) (rest : ℕ) (k : Looked ahead set found rest) where
    -- no member is left: all were looked at
    pub look-end : lowest_of rest ≡ None → found ≡ best ahead (has set) 64
    look-end e = k.same ∙ sym (best-skip ahead (has set) k.upto 64 k.high none)
      where
        none : (s : ℕ) → k.upto ≤ s → s < 64 → has set s ≡ false
        none s a b =
            let z : rest ≡ 0 = lowest-none rest k.fits e in
            bool_false (has set s) (λ t. opposed (k.left s b ∙ and_both t (le-leb k.upto s a)) (ap (λ (r : ℕ). has r s) z ∙ has-zero s))

    module _ (s : ℕ) (e : lowest_of rest ≡ Some s) where
      at : First 64 (has rest) s
      at = lowest-found rest s e

      pub look-low : s < 64
      look-low = at.below

      here : (has set s && leb k.upto s) ≡ true
      here = sym (k.left s at.below) ∙ at.holds

      -- the slots from upto on and below s are no members
      none : (t : ℕ) → k.upto ≤ t → t < s → has set t ≡ false
      none t a b =
          bool_false (has set t)
          (λ h. opposed (k.left t (omega (arith, at.below)) ∙ and_both h (le-leb k.upto t a)) (at.least t b))

      from : k.upto ≤ s
      from = leb-true k.upto s (and_right (has set s) (leb k.upto s) here)

      left : (t : ℕ) → t < 64 → has (remove_of rest s) t ≡ (has set t && leb (s + 1) t)
      left t h = has-remove rest s t h ∙ go (lt-or-le t s) (eq-or-ne t s)
        where
          go : (t < s) ⊎ (s ≤ t) → (t ≡ s) ⊎ (t ≡ s → ⊥) → (has rest t && not (eqb t s)) ≡ (has set t && leb (s + 1) t)
          go (inl a) d = rw (at.least t a, lt-leb (s + 1) t (omega arith)) (sym (and-false (has set t)))
            where
              and-false : (b : Bool) → (b && false) ≡ false
              and-false true = refl
              and-false false = refl
          go (inr a) (inl d) = rw (eq-eqb t s d, lt-leb (s + 1) t (omega arith)) (both_false (has rest t) (has set t))
            where
              both_false : (b c : Bool) → (b && false) ≡ (c && false)
              both_false true true = refl
              both_false true false = refl
              both_false false true = refl
              both_false false false = refl
          go (inr a) (inr d) =
              rw (ne_eqb t s d, le-leb (s + 1) t (omega (arith, d)), k.left t h, le-leb k.upto t (omega (arith, from)))
              (ap (λ (b : Bool). b && true) (sym (and-true (has set t))))

      pub look-more : Looked ahead set (better_of ahead found s) (remove_of rest s)
      look-more =
          record {
            fits = remove-below rest s;
            upto = s + 1;
            high = omega (arith, at.below);
            left = left;
            same =
                ap (λ (f : Found). better_of ahead f s) (k.same ∙ sym (best-skip ahead (has set) k.upto s from none))
                ∙ sym (best-took ahead (has set) s (and_left (has set s) (leb k.upto s) here));
          }

      -- one member fewer is left
      pub look-less : size_of (remove_of rest s) < size_of rest
      look-less = omega (arith, size-remove rest s at.below at.holds)
