-- `table_valid::numbers_fit_lem` meets its contract: the code is the definition. Assumes nothing.
use mathlib.Core.Path.{refl}
use Rattle.rules.specs.Fits.{numbers_fit}
use Rattle.table_valid.proofs.numbers_fit.Goals as goal

pub returns : goal.returns
unfolding numbers_fit
returns c = refl
