-- The answers. Assumes nothing.
use native.Mathlib.Omega.{arith}
use Rattle.image_pool.proofs.Passes.{kept-none, kept_more, kept-all}
use Rattle.image_pool.proofs.take_probes_out.Goals as goal

pub loop-at-init : goal.loop-at-init
loop-at-init c = kept-none _ _ _ _

pub loop-at-preserved : goal.loop-at-preserved
loop-at-preserved c = kept_more _ _ _ _ _ _ _ _ _ (omega arith) c.loop-at.invariant c.keep-kept.ensures

pub returns : goal.returns
returns c = kept-all _ _ _ _ _ _ _ (omega arith) c.loop-at.invariant
