-- `over_counts::counts_after` meets its contract: the answer decides the definition's case. Assumes nothing.
use Rattle.over_counts.proofs.counts_after.Goals as goal

pub returns-in-Ok : goal.returns-in-Ok
returns-in-Ok c = rw c.in-Ok.is c.counts_of.ensures
