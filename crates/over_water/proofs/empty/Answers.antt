-- `over_water::empty` meets its contract: every place is blank. Assumes nothing.
use mathlib.Core.Path.{refl}
use Rattle.water.specs.Water.{empty_store}
use Rattle.over_water.proofs.empty.Goals as goal

pub returns : goal.returns
unfolding empty_store
returns c = refl
