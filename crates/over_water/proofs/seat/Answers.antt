-- The answers. Assumes nothing.
use mathlib.Core.Path.{◌≡◌, sym, ◌∙◌}
use native.Mathlib.Omega.{arith}
use Rattle.over_water.proofs.Places.{Full, full, none_passed, passed-all, found, passed-more}
use Rattle.over_water.proofs.seat.Goals as goal

pub loop-i-init : goal.loop-i-init
loop-i-init c = none_passed _ _

pub returns-then-alike : goal.returns-then-alike
returns-then-alike c = let whole : Full c.args.s = full c.args.s _ c.well_formed.0 in
    found _ (whole) _ c.loop-i.i c.loop-i.invariant (omega (arith, c.held_count-n.ensures.value))
    (sym c.alike.ensures ∙ c.if-alike.true)

pub loop-i-preserved : goal.loop-i-preserved
loop-i-preserved c = let whole : Full c.args.s = full c.args.s _ c.well_formed.0 in
    passed-more _ (whole) _ c.loop-i.i c.loop-i.invariant (omega (arith, c.held_count-n.ensures.value))
    (sym c.alike.ensures ∙ c.if-alike.false)

pub returns : goal.returns
returns c = let whole : Full c.args.s = full c.args.s _ c.well_formed.0 in
    let end : c.loop-i.i ≡ c.held_count-n.result = omega arith in
    sym end ∙ passed-all _ (whole) _ c.loop-i.i c.loop-i.invariant (end ∙ c.held_count-n.ensures.value)
