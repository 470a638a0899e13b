-- `dist::right_cover` meets its contract. Assumes nothing.
use Rattle.ring.specs.Distance.{right_cover_of}
use Rattle.dist.proofs.Bounds.{rem-fits}
use Rattle.dist.proofs.right_cover.Goals as goal

pub overflow_cast-result-2 : goal.overflow_cast-result-2
overflow_cast-result-2 c = rem-fits c.requires.width _ _ c.size.ensures

pub returns : goal.returns
unfolding right_cover_of
returns c = rw (c.size.ensures, c.fall.ensures)
