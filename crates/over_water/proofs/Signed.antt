-- Signed sums of amounts, as the machine holds them: their sizes stay far below 2^63, so their bits are read back as the numbers meant.
-- Assumes nothing.
use mathlib.Core.Path.{◌≡◌, refl}
use mathlib.Core.Logic.{⊎_elim}
use Prim.Native.Nat.{ℕ, zero, suc, ◌+◌, ◌^◌, ◌≤◌}
use native.Mathlib.Omega.{arith}
use lib.IntN.{ℤ, pos, negsuc, neg_ℤ, nat_abs, sub_ℕ, ◌+ℤ◌, ◌-ℤ◌}
use mir.Syntax.{w32, w64}
use mir.Val.{Fits, SFits, to_z, of_z}
use mir.Facts.{to_z-of_z}
use borrow.Author.Tests.{lt-ltb, le-ltb}
use Rattle.marks.proofs.Bools.{lt-or-le}

size-sub : (a b : ℕ) → nat_abs (sub_ℕ a b) ≤ a + b
size-sub a b = ⊎_elim (λ p. rw (lt-ltb a b p) (omega arith)) (λ p. rw (le-ltb a b p) (omega arith)) (lt-or-le a b)

-- a sum is no larger than both together, and a number as large as its opposite
pub size-sum : (z w : ℤ) → nat_abs (z +ℤ w) ≤ nat_abs z + nat_abs w
size-sum (pos a) (pos b) = omega arith
size-sum (pos a) (negsuc b) = size-sub a (suc b)
size-sum (negsuc a) (pos b) = omega (arith, size-sub b (suc a))
size-sum (negsuc a) (negsuc b) = omega arith

size-neg : (z : ℤ) → nat_abs (neg_ℤ z) ≡ nat_abs z
size-neg (pos zero) = refl
size-neg (pos (suc n)) = refl
size-neg (negsuc n) = refl

size_less : (z w : ℤ) → nat_abs (z -ℤ w) ≤ nat_abs z + nat_abs w
size_less z w = rw (size-neg w) at (size-sum z (neg_ℤ w))

pub fits : (z : ℤ) → nat_abs z ≤ 2 ^ 60 → SFits w64 z
fits (pos n) h = record { sfits = omega arith }
fits (negsuc n) h = record { sfits = omega arith }

-- a number as it was stored
pub stored : (z : ℤ) → nat_abs z ≤ 2 ^ 60 → to_z w64 (of_z w64 z) ≡ z
stored z h = to_z-of_z (fits z h)

-- an amount of 32 bits, read as a signed number
pub back : (a : ℕ) → Fits w32 a → to_z w64 a ≡ pos a
back a f = rw (lt-ltb a (2 ^ 63) (omega (arith, f.fits)))

module _ (a b : ℕ) (f : Fits w32 a) (g : Fits w32 b) where
  small : nat_abs (pos a -ℤ pos b) ≤ 2 ^ 33
  small = omega (arith, size_less (pos a) (pos b), f.fits, g.fits)

  pub two-fit : SFits w64 (to_z w64 a -ℤ to_z w64 b)
  two-fit = rw (back a f, back b g) (fits (pos a -ℤ pos b) (omega (arith, small)))

  two_is : to_z w64 (of_z w64 (to_z w64 a -ℤ to_z w64 b)) ≡ pos a -ℤ pos b
  two_is = rw (to_z-of_z two-fit, back a f, back b g)

module _ (a b c : ℕ) (f : Fits w32 a) (g : Fits w32 b) (h : Fits w32 c) where
  pub change-small : nat_abs (pos a -ℤ pos b -ℤ pos c) ≤ 2 ^ 34
  change-small = omega (arith, size_less (pos a -ℤ pos b) (pos c), small a b f g, h.fits)

  pub three-fit : SFits w64 (to_z w64 (of_z w64 (to_z w64 a -ℤ to_z w64 b)) -ℤ to_z w64 c)
  three-fit = rw (two_is a b f g, back c h) (fits (pos a -ℤ pos b -ℤ pos c) (omega (arith, change-small)))

  pub three-is : to_z w64 (of_z w64 (to_z w64 (of_z w64 (to_z w64 a -ℤ to_z w64 b)) -ℤ to_z w64 c)) ≡ pos a -ℤ pos b -ℤ pos c
  three-is = rw (to_z-of_z three-fit, two_is a b f g, back c h)
