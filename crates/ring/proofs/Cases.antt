-- 01's worked values, P1 to P7, P8's tie, P10 and Fall at M = 32, as one table proved of the definitions. For P4 to P7 the checker computes the
-- test at each of the 256 keys (`each-key`). `further` has what they leave open: distances round the ring's end, the tie there, and an odd gap.
-- Assumes nothing.
use mathlib.Core.Path.{◌≡◌, refl, sym}
use mathlib.Core.Logic.{⊎_elim}
use mathlib.Core.Bool.{Bool, true, false, ◌&&◌, ◌||◌, beq, and-eq-true_iff}
use Prim.Native.Nat.{ℕ, zero, suc, ◌<◌, ◌^◌}
use native.Mathlib.Nat.{eq-or-lt_of_le, le_of_suc-le-suc, not-suc-le-zero}
use lib.Dec.{leb}
use lib.IntN.{pos, negsuc}
use Rattle.ring.specs.Distance.{fall_of, signed_of, abs_dist_of, rises_to, nearer, left_cover_of, right_cover_of, covers_key}

-- f and g agree at every number below n
abbrev agree : (ℕ → Bool) → (ℕ → Bool) → ℕ → Bool
agree f g zero = true
agree f g (suc n) = beq (f n) (g n) && agree f g n

same : (a b : Bool) → beq a b ≡ true → a ≡ b
same true true e = refl
same true false e = sym e
same false true e = e
same false false e = refl

each-key : (f g : ℕ → Bool) (n : ℕ) → agree f g n ≡ true → (k : ℕ) → k < n → f k ≡ g k
each-key f g zero e k h = absurd (not-suc-le-zero h)
each-key f g (suc n) e k h =
    let w = (and-eq-true_iff (beq (f n) (g n)) (agree f g n)).0 e in
    ⊎_elim (λ (q : k ≡ n). rw q (same (f n) (g n) w.0)) (each-key f g n w.1 k) (eq-or-lt_of_le (le_of_suc-le-suc h))

pub record Worked : Type 0 where
  pub p1 : fall_of 256 18 17 ≡ 1
  pub p2 : fall_of 256 17 18 ≡ 255
  pub p3 : (signed_of 256 0 128 ≡ negsuc 127) × (signed_of 256 128 0 ≡ pos 128)
  pub p4 : (k : ℕ) → k < 256 → covers_key 256 17 18 95 k ≡ (leb 185 k || leb k 17)
  pub p5 : (k : ℕ) → k < 256 → covers_key 256 18 65 17 k ≡ (leb 18 k && leb k 41)
  pub p6 : (k : ℕ) → k < 256 → covers_key 256 65 95 18 k ≡ (leb 42 k && leb k 80)
  pub p7 : (k : ℕ) → k < 256 → covers_key 256 95 17 65 k ≡ (leb 81 k && leb k 184)
  -- P8's tie: 65 and 95 at distance 15 of key 80, and 65 the nearer
  pub tie : (abs_dist_of 256 80 65 ≡ 15) × (abs_dist_of 256 80 95 ≡ 15) × (nearer 256 80 65 95 ≡ true) × (nearer 256 80 95 65 ≡ false)
  pub p10 : covers_key 256 17 17 17 200 ≡ true
  pub wide : fall_of (2 ^ 32) 0 4294967295 ≡ 1

pub worked : Worked
unfolding covers_key fall_of left_cover_of right_cover_of signed_of abs_dist_of rises_to nearer
worked =
    record {
      p1 = refl;
      p2 = refl;
      p3 = (refl, refl);
      p4 = each-key _ _ 256 refl;
      p5 = each-key _ _ 256 refl;
      p6 = each-key _ _ 256 refl;
      p7 = each-key _ _ 256 refl;
      tie = (refl, refl, refl, refl);
      p10 = refl;
      wide = refl;
    }

pub record Further : Type 0 where
  -- Fall(x, x) = 0
  pub self : fall_of 256 17 17 ≡ 0
  -- d + N if d < -N/2; d - N if d > N/2; else d
  pub signed : (signed_of 256 3 250 ≡ pos 9) × (signed_of 256 250 3 ≡ negsuc 8) × (signed_of 256 17 95 ≡ negsuc 77) × (signed_of 256 95 17 ≡ pos 78)
  pub past-half : (signed_of 256 129 0 ≡ negsuc 126) × (signed_of 256 0 129 ≡ pos 127)
  pub size : (abs_dist_of 256 250 3 ≡ 9) × (abs_dist_of 256 0 128 ≡ 128)
  -- key 0 is reached from 250 by rising, though 6 is the smaller id at the same distance
  pub tie : (nearer 256 0 250 6 ≡ true) × (nearer 256 0 6 250 ≡ false) × (nearer 256 0 6 6 ≡ false)
  -- a smaller AbsDist comes first, whatever the direction
  pub smaller : (nearer 256 0 5 250 ≡ true) × (nearer 256 0 250 5 ≡ false)
  -- 10 with 15 on its left and 3 on its right: an odd gap on each side
  pub cover : (left_cover_of 256 10 15 ≡ 12) × (right_cover_of 256 10 3 ≡ 7) × (left_cover_of 256 250 5 ≡ 255) × (right_cover_of 256 5 250 ≡ 0)

pub further : Further
unfolding fall_of left_cover_of right_cover_of signed_of abs_dist_of rises_to nearer
further =
    record {
      self = refl;
      signed = (refl, refl, refl, refl);
      past-half = (refl, refl);
      size = (refl, refl);
      tie = (refl, refl, refl);
      smaller = (refl, refl);
      cover = (refl, refl, refl, refl);
    }
