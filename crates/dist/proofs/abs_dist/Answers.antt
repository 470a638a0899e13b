-- `dist::abs_dist` meets its contract: AbsDist is the smaller of the two falls. Assumes nothing.
use Rattle.std.proofs.Common.{arith}
use Rattle.ring.proofs.Falls.{abs_dist-is}
use Rattle.dist.proofs.Bounds.{ring_of_lem}
use Rattle.dist.proofs.abs_dist.Goals as goal

pub returns : goal.returns
returns c = let h = c.requires in
    omega (arith, abs_dist-is _ (ring_of_lem h) _ _ h.first h.second)
