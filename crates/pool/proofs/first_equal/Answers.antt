-- The answers. Assumes nothing.
use mathlib.Core.Path.{◌≡◌, refl, sym, ◌∙◌, ap}
use native.Mathlib.Omega.{arith}
use lib.ListN.{get_or}
use Rattle.std.proofs.Common.{rules}
use Rattle.rules.specs.Mail.{fields_of, removed_at}
use Rattle.rules.specs.Pool.{blank}
use Rattle.pool_laws.proofs.Places.{left-few, left-low-at, left-read, left-counted}
use Rattle.pool_laws.proofs.Places.{none-same, same_more, none_passed, passed-more, missed, met}
use Rattle.pool.proofs.first_equal.Goals as goal

pub places-init : goal.places-init
places-init c = (omega arith, none_passed _ _)

pub place_of-place-requires : goal.place_of-place-requires
place_of-place-requires c = let few = left-few _ _ _ c.left_count-n.ensures in search rules

pub offset_bounds-waiting-place : goal.offset_bounds-waiting-place
offset_bounds-waiting-place c =
    let low = left-low-at c.args.waiting.now c.args.gone _ _ _ c.left_count-n.ensures c.if-n-at.false c.place_of-place.ensures in
    search rules

pub bounds-waiting-place : goal.bounds-waiting-place
bounds-waiting-place c = left-low-at c.args.waiting.now c.args.gone _ _ _ c.left_count-n.ensures c.if-n-at.false c.place_of-place.ensures

pub loop-f-init : goal.loop-f-init
loop-f-init c = (refl, none-same _ _)

pub places-preserved : goal.places-preserved
places-preserved c =
    let row : c.fields-a.result ≡ fields_of (get_or (removed_at c.args.waiting.now c.args.gone) c.places.at blank) = c.fields-a.ensures
    ∙ ap fields_of (left-read c.args.waiting.now c.args.gone _ _ _ c.left_count-n.ensures c.if-n-at.false c.place_of-place.ensures) in
    let k = c.places in
    let v = c.loop-f.invariant in
    (omega arith, rw v.0 (passed-more _ _ _ _ _ row (omega arith) c.if-a-f.true k.invariant.1))

pub loop-f-preserved : goal.loop-f-preserved
loop-f-preserved c = let v = c.loop-f.invariant in (v.0, same_more _ _ _ v.1 c.if-a-f.false)

pub returns-then-n-at : goal.returns-then-n-at
returns-then-n-at c =
    let long = left-counted c.args.waiting.now c.args.gone _ c.left_count-n.ensures in
    sym (missed _ _ _ c.fields-b.ensures _ (omega arith) c.places.invariant.1)

pub returns-after-loop-f : goal.returns-after-loop-f
returns-after-loop-f c =
    let row : c.fields-a.result ≡ fields_of (get_or (removed_at c.args.waiting.now c.args.gone) c.places.at blank) = c.fields-a.ensures
    ∙ ap fields_of (left-read c.args.waiting.now c.args.gone _ _ _ c.left_count-n.ensures c.if-n-at.false c.place_of-place.ensures) in
    let v = c.loop-f.invariant in
    let long = left-counted c.args.waiting.now c.args.gone _ c.left_count-n.ensures in
    rw v.0 (sym (met _ _ _ c.fields-b.ensures _ _ _ (omega arith) c.places.invariant.1 row (omega arith) v.1))
