-- `over_counts::poll` meets its contract: a valid table has at most 64 slots. Assumes nothing.
use mathlib.Core.Path.{◌∙◌, ap}
use Rattle.std.specs.Prelude.{ℕ, Ok}
use Rattle.counts.proofs.ByCase.{tells, polled-nodes}
use Rattle.over_counts.proofs.poll.Goals as goal

pub nodes_counted-requires : goal.nodes_counted-requires
nodes_counted-requires c = (tells _ _ (c.sound.ensures.sound c.in_ok-sound.was)).numbers.n-high

pub returns : goal.returns
returns c = ap (λ (set : ℕ). Ok set) c.nodes_counted.ensures ∙ polled-nodes _ _ (c.sound.ensures.sound c.in_ok-sound.was)
