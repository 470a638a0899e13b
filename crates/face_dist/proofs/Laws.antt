-- What the test of the ranges tells: what crate dist asks. Assumes nothing.
use mathlib.Core.Path.{◌≡◌, refl, ap, ◌∙◌}
use mathlib.Core.Bool.{Bool, true, false, ◌&&◌, and-eq-true_iff}
use Rattle.std.specs.List.{list_all}
use mathlib.Core.List.{List, [], ◌∷◌}
use Prim.Native.Nat.{ℕ, ◌^◌, ◌<◌}
use native.Mathlib.Omega.{arith}
use lib.Dec.{leb, ltb}
use borrow.Author.Tests.{ltb-true, leb-true}
use Rattle.rules.specs.InnerAsks.{Width, Inside}
use Rattle.face_dist.specs.Dist.{all_inside}

width : (m : ℕ) → all_inside m [] ≡ true → Width m
width m e =
    let w = (and-eq-true_iff (leb 2 m) (leb m 32)).0 e in
    record { low = omega (arith, leb-true 2 m w.0); high = leb-true m 32 w.1 }

head_in : (m x : ℕ) (xs : List ℕ) → all_inside m (x ∷ xs) ≡ true → x < 2 ^ m
head_in m x xs e = ltb-true x (2 ^ m) ((and-eq-true_iff (ltb x (2 ^ m)) (all_inside m xs)).0 e).0

tail-in : (m x : ℕ) (xs : List ℕ) → all_inside m (x ∷ xs) ≡ true → all_inside m xs ≡ true
tail-in m x xs e = ((and-eq-true_iff (ltb x (2 ^ m)) (all_inside m xs)).0 e).1

pub two : (m x y : ℕ) → all_inside m (x ∷ y ∷ []) ≡ true → Inside m x y
two m x y e =
    let t = tail-in m x (y ∷ []) e in
    record { width = width m (tail-in m y [] t); first = head_in m x (y ∷ []) e; second = head_in m y [] t }

pub three : (m x y z : ℕ) → all_inside m (x ∷ y ∷ z ∷ []) ≡ true → Inside m x y × Inside m x z
three m x y z e =
    let x-in = head_in m x (y ∷ z ∷ []) e in
    let i = two m y z (tail-in m x (y ∷ z ∷ []) e) in
    (record { width = i.width; first = x-in; second = i.first }, record { width = i.width; first = x-in; second = i.second })

pub four : (m w x y z : ℕ) → all_inside m (w ∷ x ∷ y ∷ z ∷ []) ≡ true → Inside m w x × Inside m y z
four m w x y z e =
    let t = tail-in m w (x ∷ y ∷ z ∷ []) e in
    let i = two m y z (tail-in m x (y ∷ z ∷ []) t) in
    (record { width = i.width; first = head_in m w (x ∷ y ∷ z ∷ []) e; second = head_in m x (y ∷ z ∷ []) t }, i)

and-assoc : (a b c : Bool) → ((a && b) && c) ≡ (a && (b && c))
and-assoc true b c = refl
and-assoc false b c = refl

-- one after the other, and then the width
pub all_with : (m : ℕ) (xs : List ℕ) → (list_all (λ x. ltb x (2 ^ m)) xs && all_inside m []) ≡ all_inside m xs
all_with m [] = refl
all_with m (x ∷ xs) = and-assoc (ltb x (2 ^ m)) _ _ ∙ ap (λ b. ltb x (2 ^ m) && b) (all_with m xs)
