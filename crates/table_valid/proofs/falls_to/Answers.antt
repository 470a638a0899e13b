-- `table_valid::falls_to` meets its contract: the way by falling is the shorter one. Assumes nothing.
use Rattle.table_valid.proofs.Hops.{falls-is}
use Rattle.table_valid.proofs.falls_to.Goals as goal

pub returns : goal.returns
returns c = rw (c.fall.ensures, c.fall-2.ensures) (falls-is c.requires)
