-- What a test that is made of tests tells of its parts, and the other way. The equations (`b && true ≡ b`, `b || true ≡ true`, ..)
-- are in mathlib.Core.Bool, and what `not` tells (not-true, not-false) is in borrow.Author.Tests. Where a law reads a test's value the
-- parts are explicit: `◌&&◌` and `◌||◌` compute, so antt does not find them. Assumes nothing.
use mathlib.Core.Path.{◌≡◌, refl, sym, ◌∙◌}
use mathlib.Core.Logic.{◌⊎◌, inl, inr, ⊎_elim}
use mathlib.Core.Bool.{Bool, true, false, ◌&&◌, ◌||◌, not, true≢false}
use Prim.Native.Nat.{ℕ, ◌<◌, ◌≤◌}
use borrow.Author.Tests.{ltb-true, ltb-false, eqb-true, eqb-false}
use lib.Dec.{ltb, eqb}

pub clash : true ≡ false → ⊥
clash e = true≢false e

-- no test passes and fails
pub opposed : {b : Bool} → b ≡ true → b ≡ false → ⊥
opposed p q = true≢false (sym p ∙ q)

pub bool_cases : (b : Bool) → (b ≡ true) ⊎ (b ≡ false)
bool_cases true = inl refl
bool_cases false = inr refl

pub bool_false : (b : Bool) → (b ≡ true → ⊥) → b ≡ false
bool_false true h = absurd (h refl)
bool_false false h = refl

pub bool-true : (b : Bool) → (b ≡ false → ⊥) → b ≡ true
bool-true true h = refl
bool-true false h = absurd (h refl)

-- two tests are equal when each passes where the other does
pub bool_same : (a b : Bool) → (a ≡ true → b ≡ true) → (b ≡ true → a ≡ true) → a ≡ b
bool_same true b f g = sym (f refl)
bool_same false true f g = g refl
bool_same false false f g = refl

-- ---- and

pub and_left : (a b : Bool) → (a && b) ≡ true → a ≡ true
and_left true b e = refl
and_left false b e = e

pub and_right : (a b : Bool) → (a && b) ≡ true → b ≡ true
and_right true b e = e
and_right false b e = absurd (clash (sym e))

pub and_both : {a b : Bool} → a ≡ true → b ≡ true → (a && b) ≡ true
and_both {a} {b} p q = rw (p, q)

pub and-fails-left : {a : Bool} (b : Bool) → a ≡ false → (a && b) ≡ false
and-fails-left b p = rw p

pub and-fails-right : (a : Bool) {b : Bool} → b ≡ false → (a && b) ≡ false
and-fails-right true q = q
and-fails-right false q = refl

pub and_cases : (a b : Bool) → (a && b) ≡ false → (a ≡ false) ⊎ (b ≡ false)
and_cases true b e = inr e
and_cases false b e = inl refl

-- ---- or

pub or_left : {a : Bool} (b : Bool) → a ≡ true → (a || b) ≡ true
or_left b p = rw p

pub or_right : (a : Bool) {b : Bool} → b ≡ true → (a || b) ≡ true
or_right true q = refl
or_right false q = q

pub or_cases : (a b : Bool) → (a || b) ≡ true → (a ≡ true) ⊎ (b ≡ true)
or_cases true b e = inl refl
or_cases false b e = inr e

pub or-fails : {a b : Bool} → a ≡ false → b ≡ false → (a || b) ≡ false
or-fails {a} {b} p q = rw (p, q)

pub or-fails-left : (a b : Bool) → (a || b) ≡ false → a ≡ false
or-fails-left true b e = e
or-fails-left false b e = refl

pub or-fails-right : (a b : Bool) → (a || b) ≡ false → b ≡ false
or-fails-right true b e = absurd (clash e)
or-fails-right false b e = e

-- ---- not

pub true-not : {b : Bool} → b ≡ true → not b ≡ false
true-not p = rw p

pub false-not : {b : Bool} → b ≡ false → not b ≡ true
false-not p = rw p

pub not-and : (a b : Bool) → not (a && b) ≡ (not a || not b)
not-and true b = refl
not-and false b = refl

pub not-or : (a b : Bool) → not (a || b) ≡ (not a && not b)
not-or true b = refl
not-or false b = refl

-- ---- which way a comparison goes

pub lt-or-le : (s n : ℕ) → (s < n) ⊎ (n ≤ s)
lt-or-le s n = ⊎_elim (λ e. inl (ltb-true s n e)) (λ e. inr (ltb-false s n e)) (bool_cases (ltb s n))

pub eq-or-ne : (s t : ℕ) → (s ≡ t) ⊎ (s ≡ t → ⊥)
eq-or-ne s t = ⊎_elim (λ e. inl (eqb-true s t e)) (λ e. inr (eqb-false s t e)) (bool_cases (eqb s t))
