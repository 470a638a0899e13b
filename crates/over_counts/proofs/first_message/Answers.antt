-- `over_counts::first_message` meets its contract: a valid table has at most 64 slots, and a valid pool at most 256 messages. Assumes nothing.
use Rattle.marks.specs.Marks.{Found}
use mathlib.Core.Path.{◌∙◌, ap}
use Rattle.std.specs.Prelude.{Ok}
use Prim.Native.Nat.{◌<◌}
use native.Mathlib.Omega.{arith}
use Rattle.counts.proofs.ByCase.{tells, first-none, first-walked}
use Rattle.over_counts.proofs.first_message.Goals as goal

pub offset_bounds-counts-i : goal.offset_bounds-counts-i
offset_bounds-counts-i c = let good = c.sound_at.ensures.sound c.in_ok-sound_at.was in
    let low : c.args.i < 64 = omega (arith, good.1, (tells _ _ good.0).numbers.n-high) in
    omega (arith, low)

pub bounds-counts-i : goal.bounds-counts-i
bounds-counts-i c = let good = c.sound_at.ensures.sound c.in_ok-sound_at.was in
    omega (arith, good.1, (tells _ _ good.0).numbers.n-high)

pub returns-then-counts-i-eq0 : goal.returns-then-counts-i-eq0
returns-then-counts-i-eq0 c = let good = c.sound_at.ensures.sound c.in_ok-sound_at.was in
    first-none _ _ good.0 _ good.1 (omega arith)

pub shared_ref_as_front-first_for : goal.shared_ref_as_front-first_for
shared_ref_as_front-first_for c = let good = c.sound_at.ensures.sound c.in_ok-sound_at.was in (tells _ _ good.0).counted

pub returns : goal.returns
returns c = let good = c.sound_at.ensures.sound c.in_ok-sound_at.was in
    ap (λ (found : Found). Ok found) c.first_for.ensures ∙ first-walked _ _ good.0 _ good.1 c.if-counts-i-eq0.false
