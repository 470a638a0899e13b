-- Fall on a ring of 2 ^ m ids, computed at a width w of at least m bits: a difference d that goes round 2 ^ w, cut down to m bits.
-- Assumes nothing.
use mathlib.Core.Path.{◌≡◌, sym}
use Prim.Native.Nat.{ℕ, ◌+◌, ◌-◌, ◌%◌, ◌^◌, ◌<◌, ◌≤◌}
use native.Mathlib.Nat.{add_comm, add-mod-mod, mod-eq_of_lt, mod-lt, sub-add_cancel}
use lib.Pow.{mod-mod-pow, pow_pos}
use Rattle.ring.specs.Distance.{fall_of}
use Rattle.ring.proofs.Falls.{fall-only}

pub fall-wrapped : (w m d x y : ℕ) → m ≤ w → x < 2 ^ m → y < 2 ^ m → (d + y) % 2 ^ w ≡ x → d % 2 ^ m ≡ fall_of (2 ^ m) x y
fall-wrapped w m d x y hm hx hy e =
    let p : (d + y) % 2 ^ w % 2 ^ m ≡ (d + y) % 2 ^ m
    = rw (sub-add_cancel hm) at (mod-mod-pow (d + y) (w - m) m) in
    sym (fall-only (2 ^ m) x y (d % 2 ^ m) (mod-lt d (pow_pos m)) hy (rw (add-mod-mod, add_comm, ← p, e) (mod-eq_of_lt hx)))
