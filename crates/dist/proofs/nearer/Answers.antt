-- `dist::nearer` meets its contract: the order of 01 is the order of ranks. Assumes nothing.
use Rattle.ring.proofs.Order.{nearer-rank}
use Rattle.dist.proofs.nearer.Goals as goal

pub returns : goal.returns
returns c = rw (c.rank-2.ensures, c.rank.ensures, nearer-rank)
