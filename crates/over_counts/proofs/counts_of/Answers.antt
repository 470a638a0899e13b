-- The answers. Assumes nothing.
use mathlib.Core.Path.{◌≡◌, sym, subst}
use Prim.Native.Nat.{ℕ, ◌<◌}
use native.Mathlib.Omega.{arith}
use lib.ListN.{length}
use Rattle.rules.specs.Pool.{waiting}
use Rattle.pool_laws.proofs.Places.{places-length}
use Rattle.counts.specs.Counts.{counts_of}
use Rattle.over_counts.proofs.Laws.{Tallied, waits_in, waits-low, waits-at, tallied-none, tallied-low, tallied-more, tallied-end}
use Rattle.over_counts.proofs.counts_of.Goals as goal

pub loop-at-init : goal.loop-at-init
loop-at-init c = tallied-none (waiting c.args.p)

pub offset_bounds-p-at : goal.offset_bounds-p-at
offset_bounds-p-at c = let long : length c.args.p.places ≡ 256 = places-length c.args.p _ c.well_formed.0 in
    let low : c.loop-at.at < c.waiting_in-n.result → c.loop-at.at < 256 = λ h. omega (arith, waits-low c.args.p (long), c.waiting_in-n.ensures) in
    omega (arith, low c.loop-at-test.true)

pub bounds-p-at : goal.bounds-p-at
bounds-p-at c = let long : length c.args.p.places ≡ 256 = places-length c.args.p _ c.well_formed.0 in
    let low : c.loop-at.at < c.waiting_in-n.result → c.loop-at.at < 256 = λ h. omega (arith, waits-low c.args.p (long), c.waiting_in-n.ensures) in
    low c.loop-at-test.true

pub count_one-requires : goal.count_one-requires
count_one-requires c = let long : length c.args.p.places ≡ 256 = places-length c.args.p _ c.well_formed.0 in
    let low : c.loop-at.at < c.waiting_in-n.result → c.loop-at.at < 256 = λ h. omega (arith, waits-low c.args.p (long), c.waiting_in-n.ensures) in
    let few = low c.loop-at-test.true in
    λ h. omega (arith, tallied-low (waiting c.args.p) c.loop-at.at c.loop-at.counts c.loop-at.invariant _ h, few)

pub loop-at-preserved : goal.loop-at-preserved
loop-at-preserved c = let long : length c.args.p.places ≡ 256 = places-length c.args.p _ c.well_formed.0 in
    let p = c.args.p in
    let n = c.waiting_in-n.ensures in
    let at = sym (waits-at p (long) c.loop-at.at (omega (arith, n))) in
    rw c.count_one.ensures (tallied-more (waiting p) c.loop-at.at c.loop-at.counts _ at c.loop-at.invariant)

pub returns : goal.returns
unfolding counts_of
returns c = let long : length c.args.p.places ≡ 256 = places-length c.args.p _ c.well_formed.0 in
    let p = c.args.p in
    let e : c.loop-at.at ≡ length (waiting p) = omega (arith, c.waiting_in-n.ensures, waits_in p (long)) in
    tallied-end (waiting p) c.loop-at.counts (subst (λ (n : ℕ). Tallied (waiting p) n c.loop-at.counts) e c.loop-at.invariant)
