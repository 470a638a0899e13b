-- Sets of nodes computed by the checker: 1, 2, 4 and 8 are the marks of slots 0 to 3, and 9223372036854775808 is the mark of slot 63. Assumes nothing.
use Rattle.std.specs.Prelude.{Some, None}
use mathlib.Core.Path.{◌≡◌, refl}
use mathlib.Core.Bool.{true, false}
use mathlib.Core.List.{[], ◌∷◌}
use Prim.Native.Nat.{ℕ}
use lib.Dec.{ltb}
use Rattle.marks.specs.Marks.{has, gather, tally, first_to, all_to, single, union, meet, without, add_of, remove_of, size_of}
use Rattle.marks.specs.Marks.{lowest_of, listed}

abbrev top : ℕ
top = 9223372036854775808

pub record Sets : Type 0 where
  -- mark s for slot s
  pub members : has 5 0 ∷ has 5 1 ∷ has 5 2 ∷ has 5 3 ∷ has top 63 ∷ has top 62 ∷ [] ≡ true ∷ false ∷ true ∷ false ∷ true ∷ false ∷ []
  pub one : (single 0 ≡ 1) × (single 3 ≡ 8) × (single 63 ≡ top) × (single 64 ≡ 0)
  pub joined : (union 5 3 ≡ 7) × (union top 1 ≡ 9223372036854775809)
  pub shared : (meet 5 3 ≡ 1) × (meet 5 10 ≡ 0) × (meet top top ≡ top)
  pub left_out : (without 5 3 ≡ 4) × (without 3 5 ≡ 2) × (without top 0 ≡ top)
  pub more : (add_of 5 1 ≡ 7) × (add_of 5 0 ≡ 5) × (add_of 0 63 ≡ top)
  pub fewer : (remove_of 5 2 ≡ 1) × (remove_of 5 1 ≡ 5) × (remove_of top 63 ≡ 0)
  pub size : (size_of 0 ≡ 0) × (size_of 11 ≡ 3) × (size_of top ≡ 1)
  pub lowest : (lowest_of 12 ≡ Some 2) × (lowest_of top ≡ Some 63) × (lowest_of 0 ≡ None)
  -- no mark is at n or above
  pub below : (listed 2 3 ≡ true) × (listed 2 4 ≡ false) × (listed 64 top ≡ true) × (listed 63 top ≡ false) × (listed 0 0 ≡ true)
  -- the slots below n that pass a test, their number, the first of them, whether all pass
  pub passing : (gather 4 (λ s. ltb s 2) ≡ 3) × (tally 4 (λ s. ltb s 2) ≡ 2) × (first_to 4 (λ s. ltb 1 s) ≡ Some 2) × (first_to 4 (λ s. ltb 3 s) ≡ None)
  pub all : (all_to 3 (λ s. ltb s 3) ≡ true) × (all_to 4 (λ s. ltb s 3) ≡ false) × (all_to 4 (λ s. ltb 0 s) ≡ false)

pub sets : Sets
unfolding has gather tally first_to all_to single union meet without add_of remove_of size_of lowest_of listed
sets =
    record {
      members = refl;
      one = (refl, refl, refl, refl);
      joined = (refl, refl);
      shared = (refl, refl, refl);
      left_out = (refl, refl, refl);
      more = (refl, refl, refl);
      fewer = (refl, refl, refl);
      size = (refl, refl, refl);
      lowest = (refl, refl, refl);
      below = (refl, refl, refl, refl, refl);
      passing = (refl, refl, refl, refl);
      all = (refl, refl, refl);
    }
