-- `over_rehearsal::begin` meets its contract: the file as it loads, with the verdict of its start. Assumes nothing.
use Rattle.rehearsal.specs.Rehearsal.{begin_of}
use Rattle.over_rehearsal.proofs.begin.Goals as goal

pub returns : goal.returns
unfolding begin_of
returns c = rw (c.start_verdict.ensures, ← c.loaded-s.ensures)
