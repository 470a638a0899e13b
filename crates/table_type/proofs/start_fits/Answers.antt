-- `table_type::start_fits_lem` meets its contract: it makes the definition's tests in the definition's order. Assumes nothing.
use mathlib.Core.Path.{refl}
use Rattle.start.specs.Start.{start_fits}
use Rattle.table_type.proofs.start_fits.Goals as goal

pub returns : goal.returns
unfolding start_fits
returns c = refl
