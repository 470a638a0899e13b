-- `over_counts::has_message` meets its contract: a valid table has at most 64 slots. Assumes nothing.
use Prim.Native.Nat.{◌<◌}
use native.Mathlib.Omega.{arith}
use Rattle.counts.proofs.ByCase.{tells, has-told}
use Rattle.over_counts.proofs.has_message.Goals as goal

pub offset_bounds-counts-i : goal.offset_bounds-counts-i
offset_bounds-counts-i c = let good = c.sound_at.ensures.sound c.in_ok-sound_at.was in
    let low : c.args.i < 64 = omega (arith, good.1, (tells _ _ good.0).numbers.n-high) in
    omega (arith, low)

pub bounds-counts-i : goal.bounds-counts-i
bounds-counts-i c = let good = c.sound_at.ensures.sound c.in_ok-sound_at.was in
    omega (arith, good.1, (tells _ _ good.0).numbers.n-high)

pub returns : goal.returns
returns c = let good = c.sound_at.ensures.sound c.in_ok-sound_at.was in has-told _ _ good.0 _ good.1
