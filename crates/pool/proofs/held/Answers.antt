-- The answers. Assumes nothing.
use mathlib.Core.Path.{sym, ◌∙◌, ap}
use native.Mathlib.Omega.{arith}
use lib.ListN.{take}
use lib.Seq.{take_all}
use Prim.Native.Nat.{ℕ}
use Rattle.std.proofs.Common.{rules, get_or}
use Rattle.rules.specs.Pool.{blank}
use Rattle.rules.specs.Mail.{removed_at}
use Rattle.pool_laws.specs.InnerSending.{held_of, held_with}
use Rattle.pool_laws.proofs.Sending.{held-nil, held-last}
use Rattle.pool_laws.proofs.Places.{left-few, left-low-at, left-read, left-counted, taken_more}
use Rattle.pool.proofs.held.Goals as goal

pub loop-at-init : goal.loop-at-init
loop-at-init c = sym (held-nil _)

pub place_of-requires : goal.place_of-requires
place_of-requires c = let few = left-few _ _ _ c.left_count-at-end.ensures in search rules

pub offset_bounds-waiting-place_of : goal.offset_bounds-waiting-place_of
offset_bounds-waiting-place_of c =
    let low = left-low-at c.args.waiting.now c.args.gone _ _ _ c.left_count-at-end.ensures c.loop-at-test.true c.place_of.ensures in
    search rules

pub bounds-waiting-place_of : goal.bounds-waiting-place_of
bounds-waiting-place_of c = left-low-at c.args.waiting.now c.args.gone _ _ _ c.left_count-at-end.ensures c.loop-at-test.true c.place_of.ensures

pub loop-at-preserved : goal.loop-at-preserved
loop-at-preserved c =
    let l = c.loop-at in
    let m = c.args.m in
    let xs = removed_at c.args.waiting.now c.args.gone in
    let long = left-counted c.args.waiting.now c.args.gone _ c.left_count-at-end.ensures in
    let read = left-read c.args.waiting.now c.args.gone _ _ _ c.left_count-at-end.ensures c.loop-at-test.true c.place_of.ensures in
    c.held_with-set.ensures ∙ ap (λ (h : ℕ). held_with m h (get_or c.args.waiting.now c.place_of.result blank)) l.invariant
    ∙ ap (held_with m (held_of m (take l.at xs))) read
    ∙ sym (ap (held_of m) (taken_more xs l.at (omega arith)) ∙ held-last m _ _)

pub returns : goal.returns
returns c =
    let xs = removed_at c.args.waiting.now c.args.gone in
    let long = left-counted c.args.waiting.now c.args.gone _ c.left_count-at-end.ensures in
    c.loop-at.invariant ∙ ap (held_of c.args.m) (take_all c.loop-at.at xs (omega arith))
