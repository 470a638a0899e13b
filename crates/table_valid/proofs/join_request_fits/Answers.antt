-- `table_valid::join_request_fits` meets its contract: what the definition asks of kind 2. Assumes nothing.
use Rattle.rules.specs.Fits.{fields_fit, word_fits, flag_fits, carried_fits, owner_fits, routing_fits, failed_fits}
use Rattle.table_valid.proofs.join_request_fits.Goals as goal

pub returns : goal.returns
unfolding carried_fits failed_fits fields_fit flag_fits owner_fits routing_fits word_fits
returns c = rw (c.has.ensures, c.carries_none.ensures)
