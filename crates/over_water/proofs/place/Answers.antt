-- `over_water::place` meets its contract: it asks who holds the key, and goes by the answer. Assumes nothing.
use mathlib.Core.Path.{◌∙◌}
use Rattle.water.specs.Water.{place_of}
use Rattle.over_water.proofs.place.Goals as goal

pub returns : goal.returns
unfolding place_of
returns c = c.place_by.ensures ∙ rw c.held_by.ensures
