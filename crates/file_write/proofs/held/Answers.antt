-- `file_write::held` meets its contract: the types hold it of every value. Assumes nothing.
use Rattle.file_write.proofs.Values.{held_of}
use Rattle.file_write.proofs.held.Goals as goal

pub returns : goal.returns
returns c = held_of c.args.t c.args.p _ _ c.well_formed.0 c.well_formed.1.0
