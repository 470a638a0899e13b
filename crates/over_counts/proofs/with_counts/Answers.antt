-- `over_counts::with_counts` meets its contract: the counts after the call beside what the call leaves. Assumes nothing.
use Rattle.counts.specs.Counts.{after_by}
use Rattle.over_counts.proofs.with_counts.Goals as goal

pub returns : goal.returns
unfolding after_by
returns c = rw c.counts_after-counts.ensures
