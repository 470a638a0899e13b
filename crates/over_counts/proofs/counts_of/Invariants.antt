-- `over_counts::counts_of` meets its contract. The invariant: the messages passed are counted. Assumes nothing.
use Rattle.rules.specs.Pool.{waiting}
use Rattle.over_counts.proofs.Laws.{Tallied}
use Rattle.over_counts.proofs.counts_of.Given as goal

abbrev pub invariant-loop-at : goal.invariant-loop-at
invariant-loop-at l = Tallied (waiting l.p) l.at l.counts
