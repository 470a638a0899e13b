-- The answers. Assumes nothing.
use mathlib.Core.Path.{sym, ◌∙◌}
use Prim.Native.Nat.{◌<◌}
use native.Mathlib.Omega.{arith}
use Rattle.pool_laws.proofs.Probes.{kept-none, kept-took, kept-passed}
use Rattle.pool.proofs.without_probes.Goals as goal
use Rattle.pool.proofs.without_probes.Goals.{then-not-is_probe_from, else-not-is_probe_from}

pub loop-m-init : goal.loop-m-init
loop-m-init c = (omega arith, rw c.blank_message-none.ensures (kept-none _ _ _))

pub loop-m-preserved : goal.loop-m-preserved
loop-m-preserved c =
    let is = sym c.is_probe_from.ensures in
    let few : c.loop-m.count < 256 = omega arith in
    elim c.if-not-is_probe_from.branch [
      | then-not-is_probe_from w ↦
          rw (w.places-is, w.count-is) (omega arith, kept-took _ _ _ c.loop-m-test.true c.loop-m.invariant.1 few (is ∙ w.if-not-is_probe_from.true))
      | else-not-is_probe_from w ↦
          rw (w.places-is, w.count-is) (omega arith, kept-passed _ _ _ c.loop-m-test.true c.loop-m.invariant.1 (is ∙ w.if-not-is_probe_from.false))
    ]
