-- `face_dist::below` meets its contract: from m = 32 on every x is below 2^m. Assumes nothing.
use mathlib.Core.Path.{sym}
use native.Mathlib.Nat.{one-mul, mod-eq_of_lt, lt_of_lt_of_le}
use lib.Pow.{pow-lt, pow_mono}
use borrow.Author.Tests.{lt-ltb}
use Rattle.face_dist.proofs.below.Goals as goal

pub returns-then-m-lt32 : goal.returns-then-m-lt32
returns-then-m-lt32 c = rw (one-mul, mod-eq_of_lt (pow-lt c.if-m-lt32.true))

pub returns-else-m-lt32 : goal.returns-else-m-lt32
returns-else-m-lt32 c = sym (lt-ltb _ _ (lt_of_lt_of_le c.ranges.x.fits (pow_mono c.if-m-lt32.false)))
