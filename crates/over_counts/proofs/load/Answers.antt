-- `over_counts::load` meets its contract: the counts are made of what the load leaves. Assumes nothing.
use mathlib.Core.Path.{◌∙◌, ap}
use Rattle.counts.specs.Counts.{after_by, load_with}
use Rattle.over_counts.proofs.load.Goals as goal

pub returns : goal.returns
unfolding load_with
returns c = c.with_counts.ensures ∙ ap (after_by _) c.load.ensures
