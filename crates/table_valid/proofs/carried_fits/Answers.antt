-- `table_valid::carried_fits` meets its contract: the leaf set by its callee. Assumes nothing.
use Rattle.table_valid.proofs.carried_fits.Goals as goal

pub returns : goal.returns
returns c = rw (c.leaf_fits.ensures, c.carried_of.ensures)
