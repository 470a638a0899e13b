-- The answers. Assumes nothing.
use Rattle.std.proofs.Common.{[], arith}
use lib.ListN.{length-set}
use Rattle.run_driver.proofs.Reading.{ids-none, ids_more}
use Rattle.run_driver.proofs.asked.ids_in.Goals as goal

pub loop-i-init : goal.loop-i-init
loop-i-init c = (omega arith, ids-none [] _)

pub loop-i-preserved : goal.loop-i-preserved
loop-i-preserved c = (
  rw length-set c.loop-i.invariant.0,
  ids_more c.loop-i.ids c.args.rest.now c.loop-i.i _ (omega arith) c.loop-i.invariant.1 c.read.ensures,
)
