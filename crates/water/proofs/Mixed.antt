-- One list is another in some order: then both have the same members and the same total. Assumes nothing.
use mathlib.Core.Path.{◌≡◌, refl, sym, ◌∙◌, ap}
use mathlib.Core.List.{List, [], ◌∷◌}
use mathlib.Core.Logic.{◌⊎◌, inl, inr, ⊎_elim, ◌↔◌}
use Prim.Native.Nat.{◌<◌}
use native.Mathlib.Omega.{arith}
use lib.IntN.{ℤ, ◌+ℤ◌, +ℤ_assoc, +ℤ_comm}
use lib.ListN.{length}
use Rattle.water.specs.declared.Held.{Held}
use Rattle.water.specs.Water.{change_of, total_of}
use Rattle.water.specs.Claims.{In, here, there}

pub data Mixed : List Held → List Held → Type 0 where
  same : {xs : List Held} → Mixed xs xs
  under : {x : Held} {xs ys : List Held} → Mixed xs ys → Mixed (x ∷ xs) (x ∷ ys)
  swap : {x y : Held} {xs : List Held} → Mixed (x ∷ y ∷ xs) (y ∷ x ∷ xs)
  then : {xs ys zs : List Held} → Mixed xs ys → Mixed ys zs → Mixed xs zs

turned : {xs ys : List Held} → Mixed xs ys → Mixed ys xs
turned same = same
turned (under m) = under (turned m)
turned swap = swap
turned (then m n) = then (turned n) (turned m)

-- ---- members

some_in : {h : Held} {hs : List Held} → In h hs → 0 < length hs
some_in here = omega arith
some_in (there i) = omega arith

pub none_in : {h : Held} → In h [] → ⊥
none_in i = omega (arith, some_in i)

pub in-cases : {h x : Held} {hs : List Held} → In h (x ∷ hs) → (h ≡ x) ⊎ In h hs
in-cases here = inl refl
in-cases (there i) = inr i

first : {h x : Held} {hs : List Held} → h ≡ x → In h (x ∷ hs)
first e = rw e here

kept : (h : Held) {xs ys : List Held} → Mixed xs ys → In h xs → In h ys
kept h same i = i
kept h (under m) i = ⊎_elim (λ e. first e) (λ j. there (kept h m j)) (in-cases i)
kept h swap i = ⊎_elim (λ e. there (first e)) (λ j. ⊎_elim (λ e. first e) (λ k. there (there k)) (in-cases j)) (in-cases i)
kept h (then m n) i = kept h n (kept h m i)

pub mixed-members : {xs ys : List Held} (h : Held) → Mixed xs ys → In h xs ↔ In h ys
mixed-members h m = (kept h m, kept h (turned m))

-- ---- the total

swapped : (a b c : ℤ) → a +ℤ (b +ℤ c) ≡ b +ℤ (a +ℤ c)
swapped a b c = sym (+ℤ_assoc a b c) ∙ ap (λ (d : ℤ). d +ℤ c) (+ℤ_comm a b) ∙ +ℤ_assoc b a c

pub mixed-total : {xs ys : List Held} → Mixed xs ys → total_of xs ≡ total_of ys
unfolding total_of
mixed-total same = refl
mixed-total (under {x = x} m) = ap (λ (d : ℤ). change_of x.original +ℤ d) (mixed-total m)
mixed-total (swap {x = x} {y = y} {xs = xs}) = swapped (change_of x.original) (change_of y.original) (total_of xs)
mixed-total (then m n) = mixed-total m ∙ mixed-total n
