-- `table_valid::hops_fit` meets its contract: 0 is within every bound, and n within none. Assumes nothing.
use Rattle.table_valid.proofs.Hops.{all-nodes-passed}
use Rattle.table_valid.proofs.hops_fit.Goals as goal

pub returns-then-r-h : goal.returns-then-r-h
returns-then-r-h c = all-nodes-passed _ _ _ _ _ c.requires.1 c.if-r-h.true
