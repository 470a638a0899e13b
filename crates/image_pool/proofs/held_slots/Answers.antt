-- The answers. Assumes nothing.
use mathlib.Core.Path.{refl}
use native.Mathlib.Omega.{arith}
use Rattle.image_pool.proofs.Sends.{seen_none, seen_more, seen_all}
use Rattle.image_pool.proofs.held_slots.Goals as goal

pub loop-at-init : goal.loop-at-init
loop-at-init c = seen_none _ _

pub loop-at-preserved : goal.loop-at-preserved
loop-at-preserved c =
    seen_more _ _ _ _ _ _ _ (omega arith) refl c.with_slot-set.ensures c.loop-at.invariant

pub returns : goal.returns
returns c = seen_all _ _ _ _ _ (omega arith) c.loop-at.invariant
