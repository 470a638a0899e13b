-- `over_counts::start` meets its contract: the counts are made of what the start leaves. Assumes nothing.
use mathlib.Core.Path.{◌∙◌, ap}
use Rattle.counts.specs.Counts.{after_by, start_with}
use Rattle.over_counts.proofs.start.Goals as goal

pub returns : goal.returns
unfolding start_with
returns c = c.with_counts.ensures ∙ ap (after_by _) c.start.ensures
