-- `dist::fall` meets its contract: the law `fall-wrapped` at the width of 32. Assumes nothing.
use native.Mathlib.Omega.{arith}
use Rattle.ring.proofs.Width.{fall-wrapped}
use Rattle.dist.proofs.fall.Goals as goal

pub returns : goal.returns
returns c = let h = c.requires in
    rw c.size.ensures (fall-wrapped 32 _ _ _ _ h.width.high h.first h.second (omega (arith, c.ranges.x.fits, c.ranges.y.fits)))
