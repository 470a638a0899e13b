-- `dist::signed` meets its contract. A signed number is held as bits; every one here is below 2^35 in size (`sum_fits`), so its bits
-- are read back as the number meant (`back-pos`, `d-is`, `low-is`), and the two tests of the code are those of the definition.
-- Assumes nothing.
-- ---- differences and sums of whole numbers
-- ---- the numbers of the code, n being 2^m: the difference, and what it is compared with
use Rattle.std.proofs.Common.{◌≡◌, ℕ, zero, suc, ◌+◌, ◌/◌, ◌^◌, ◌≤◌, true, false, ℤ, pos, negsuc, ◌+ℤ◌, ◌-ℤ◌, neg_ℤ, refl, ap, ⊎_elim, arith}
use Rattle.std.proofs.Common.{pow_mono, to_z-of_z, w64, SFits, to_z, of_z, le-ltb, lt-ltb}
use lib.IntN.{sub_ℕ}
use lib.Signed.{mag, lt_z}
use Rattle.ring.specs.Distance.{signed_of}
use Rattle.ring.proofs.Falls.{le-or-lt}
use Rattle.rules.specs.InnerAsks.{Inside}
use Rattle.dist.proofs.Bounds.{back-pos}
use Rattle.dist.proofs.signed.Goals as goal

sub_is : (a b : ℕ) → pos a -ℤ pos b ≡ sub_ℕ a b
sub_is a zero = rw (le-ltb a zero (omega arith)) (ap pos (omega arith))
sub_is a (suc b) = refl

neg_is : (a : ℕ) → pos 0 -ℤ pos a ≡ neg_ℤ (pos a)
neg_is zero = refl
neg_is (suc a) = rw (lt-ltb 0 (suc a) (omega arith)) (ap negsuc (omega arith))

mag-sub : (a b : ℕ) → mag (sub_ℕ a b) ≤ a + b
mag-sub a b = ⊎_elim (λ p. rw (le-ltb a b p) (omega arith)) (λ p. rw (lt-ltb a b p) (omega arith)) (le-or-lt b a)

mag-neg : (a : ℕ) → mag (neg_ℤ (pos a)) ≤ a
mag-neg zero = omega arith
mag-neg (suc a) = omega arith

sum_fits : (z w : ℤ) → mag z ≤ 2 ^ 33 → mag w ≤ 2 ^ 33 → SFits w64 (z +ℤ w)
sum_fits (pos a) (pos b) h k = record { sfits = omega arith }
sum_fits (pos a) (negsuc b) h k = record { sfits = omega (arith, mag-sub a (suc b)) }
sum_fits (negsuc a) (pos b) h k = record { sfits = omega (arith, mag-sub b (suc a)) }
sum_fits (negsuc a) (negsuc b) h k = record { sfits = omega arith }

abbrev D : ℕ → ℕ → ℤ
D x y = to_z w64 (of_z w64 (to_z w64 x -ℤ to_z w64 y))

abbrev Low : ℕ → ℤ
Low n = to_z w64 (of_z w64 (pos 0 -ℤ to_z w64 (n / 2)))

module _ {m x y n : ℕ} (h : Inside m x y) (e : n ≡ 2 ^ m) where
  top : n ≤ 2 ^ 32
  top = rw e (pow_mono h.width.high)

  x-is : to_z w64 x ≡ pos x
  x-is = back-pos x (omega (arith, top))

  y-is : to_z w64 y ≡ pos y
  y-is = back-pos y (omega (arith, top))

  n-is : to_z w64 n ≡ pos n
  n-is = back-pos n (omega (arith, top))

  half_is : to_z w64 (n / 2) ≡ pos (n / 2)
  half_is = back-pos (n / 2) (omega (arith, top))

  -- the difference
  sub-fits : SFits w64 (to_z w64 x -ℤ to_z w64 y)
  sub-fits = rw (x-is, y-is) (sum_fits (pos x) (neg_ℤ (pos y)) (omega (arith, top)) (omega (arith, top, mag-neg y)))

  d-is : D x y ≡ sub_ℕ x y
  d-is = rw (to_z-of_z sub-fits, x-is, y-is) (sub_is x y)

  -- its lower bound
  low_fits : SFits w64 (pos 0 -ℤ to_z w64 (n / 2))
  low_fits = rw half_is (sum_fits (pos 0) (neg_ℤ (pos (n / 2))) (omega arith) (omega (arith, top, mag-neg (n / 2))))

  low-is : Low n ≡ neg_ℤ (pos (n / 2))
  low-is = rw (to_z-of_z low_fits, half_is) (neg_is (n / 2))

  -- one round up, and one down
  up_fits : SFits w64 (D x y +ℤ to_z w64 n)
  up_fits = rw (d-is, n-is) (sum_fits (sub_ℕ x y) (pos n) (omega (arith, top, mag-sub x y)) (omega (arith, top)))

  down_fits : SFits w64 (D x y -ℤ to_z w64 n)
  down_fits = rw (d-is, n-is) (sum_fits (sub_ℕ x y) (neg_ℤ (pos n)) (omega (arith, top, mag-sub x y)) (omega (arith, top, mag-neg n)))

  up_is : lt_z (D x y) (Low n) ≡ true → to_z w64 (of_z w64 (D x y +ℤ to_z w64 n)) ≡ signed_of (2 ^ m) x y
  unfolding signed_of
  up_is t = rw (← e, to_z-of_z up_fits, d-is, n-is, rw (d-is, low-is) at t)

  module _ (f : lt_z (D x y) (Low n) ≡ false) where
    down_is : lt_z (to_z w64 (n / 2)) (D x y) ≡ true → to_z w64 (of_z w64 (D x y -ℤ to_z w64 n)) ≡ signed_of (2 ^ m) x y
    unfolding signed_of
    down_is t = rw (← e, to_z-of_z down_fits, d-is, n-is, rw (d-is, low-is) at f, rw (d-is, half_is) at t)

    as_is : lt_z (to_z w64 (n / 2)) (D x y) ≡ false → D x y ≡ signed_of (2 ^ m) x y
    unfolding signed_of
    as_is t = rw (← e, d-is, rw (d-is, low-is) at f, rw (d-is, half_is) at t)

pub overflow_cast-n : goal.overflow_cast-n
overflow_cast-n c = record { sfits = omega (arith, top c.requires c.size-ids.ensures) }

pub overflow_sub-d : goal.overflow_sub-d
overflow_sub-d c = sub-fits c.requires c.size-ids.ensures

pub overflow_sub-half : goal.overflow_sub-half
overflow_sub-half c = low_fits c.requires c.size-ids.ensures

pub overflow_add-result : goal.overflow_add-result
overflow_add-result c = up_fits c.requires c.size-ids.ensures

pub overflow_sub-result : goal.overflow_sub-result
overflow_sub-result c = down_fits c.requires c.size-ids.ensures

pub returns-then-d-half : goal.returns-then-d-half
returns-then-d-half c = up_is c.requires c.size-ids.ensures c.if-d-half.true

pub returns-then-half-d : goal.returns-then-half-d
returns-then-half-d c = down_is c.requires c.size-ids.ensures c.if-d-half.false c.if-half-d.true

pub returns-else-half-d : goal.returns-else-half-d
returns-else-half-d c = as_is c.requires c.size-ids.ensures c.if-d-half.false c.if-half-d.false
