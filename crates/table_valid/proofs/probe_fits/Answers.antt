-- `table_valid::probe_fits` meets its contract: what the definition asks of kinds 4 and 5. Assumes nothing.
use Rattle.rules.specs.Fits.{fields_fit, word_fits, flag_fits, carried_fits, owner_fits, routing_fits, failed_fits}
use Rattle.table_valid.proofs.probe_fits.Goals as goal

pub returns : goal.returns
unfolding carried_fits failed_fits fields_fit flag_fits owner_fits routing_fits word_fits
returns c = rw (c.carried_fits.ensures, c.has.ensures)
