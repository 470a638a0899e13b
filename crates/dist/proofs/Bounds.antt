-- Distances on a ring of 2^m ids, m from 1 to 32, as the machine holds them: all are below 2^32. Assumes nothing.
use Rattle.std.proofs.Common.{◌≡◌, ℕ, ◌%◌, ◌^◌, ◌<◌, ◌≤◌, pos, lt_of_lt_of_le, mod-lt, arith, pow_pos, pow_mono, w32, w64, Fits, to_z, lt-ltb}
use Rattle.ring.specs.Distance.{fall_of, abs_dist_of}
use Rattle.ring.proofs.Falls.{Ring, ring-at, fall-lt, abs_dist-is}
use Rattle.rules.specs.InnerAsks.{Width, Inside}

-- a remainder fits 32 bits
pub rem-fits : {m : ℕ} → Width m → (a n : ℕ) → n ≡ 2 ^ m → Fits w32 (a % n)
rem-fits {m} w a n e = record { fits = rw e (lt_of_lt_of_le (mod-lt a (pow_pos m)) (pow_mono w.high)) }

-- bits below the sign, read as a signed number
pub back-pos : (a : ℕ) → a ≤ 2 ^ 33 → to_z w64 a ≡ pos a
back-pos a h = rw (lt-ltb a (2 ^ 63) (omega arith))

module _ {m x y : ℕ} (h : Inside m x y) where
  pub ring_of_lem : Ring (2 ^ m)
  ring_of_lem = ring-at m h.width.low

  pub fall-small : fall_of (2 ^ m) x y < 2 ^ 32
  fall-small = lt_of_lt_of_le (fall-lt (2 ^ m) x y h.first) (pow_mono h.width.high)

  pub abs_dist-small : abs_dist_of (2 ^ m) x y < 2 ^ 32
  abs_dist-small = omega (arith, fall-small, abs_dist-is (2 ^ m) ring_of_lem x y h.first h.second)
