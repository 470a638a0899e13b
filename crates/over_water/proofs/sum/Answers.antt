-- The answers. Assumes nothing.
use Prim.Native.Nat.{◌^◌, ◌≤◌}
use native.Mathlib.Omega.{arith}
use lib.IntN.{nat_abs, ◌+ℤ◌}
use mir.Syntax.{w64}
use mir.Val.{to_z}
use Rattle.over_water.proofs.Places.{Full, full, none-summed, sum_fits, summed-more, summed-all}
use Rattle.over_water.proofs.Signed.{stored}
use Rattle.over_water.proofs.sum.Goals as goal

pub loop-i-init : goal.loop-i-init
loop-i-init c = none-summed _

pub overflow_add-out : goal.overflow_add-out
overflow_add-out c = let whole : Full c.args.s = full c.args.s _ c.well_formed.0 in
    let d = c.difference-out.ensures in
    rw (stored c.difference-out.result (omega (arith, d.1)))
    (sum_fits _ (whole) c.loop-i.i _ _ c.loop-i.invariant (omega (arith, c.held_count-n.ensures.value)) d.0 d.1)

pub loop-i-preserved : goal.loop-i-preserved
loop-i-preserved c = let whole : Full c.args.s = full c.args.s _ c.well_formed.0 in
    let d = c.difference-out.ensures in
    let z = to_z w64 c.loop-i.out-bits +ℤ c.difference-out.result in
    let next = summed-more _ (whole) c.loop-i.i _ _ c.loop-i.invariant (omega (arith, c.held_count-n.ensures.value)) d.0 d.1 in
    let fits : nat_abs z ≤ 2 ^ 60 = omega (arith, next.small, c.held_count-n.ensures.low) in
    rw (stored c.difference-out.result (omega (arith, d.1)), stored z fits) next

pub returns : goal.returns
returns c = let whole : Full c.args.s = full c.args.s _ c.well_formed.0 in
    summed-all _ (whole) c.loop-i.i _ c.loop-i.invariant (omega (arith, c.held_count-n.ensures.value))
