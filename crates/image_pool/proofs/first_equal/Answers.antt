-- The answers. Assumes nothing.
use mathlib.Core.Path.{refl, sym, ◌∙◌}
use Prim.Native.Nat.{◌<◌}
use native.Mathlib.Omega.{arith}
use Rattle.pool_laws.proofs.Places.{left-few}
use Rattle.image_pool.proofs.Search.{place_inside, read_left, hit, missed_more, missed-all}
use Rattle.image_pool.proofs.first_equal.Goals as goal

pub place_of-place-requires : goal.place_of-place-requires
place_of-place-requires c = omega (arith, left-few _ _ _ c.left_count-n.ensures)

pub overflow_mul-place : goal.overflow_mul-place
overflow_mul-place c = let inside : c.place_of-place.result < c.args.part.count = let a = c.args in
    place_inside a.part.count a.gone a.part.bytes.now a.m _ _ (omega (arith, c.left_count-n.ensures)) c.place_of-place.ensures in
    omega (arith, inside)

pub is_alike-requires : goal.is_alike-requires
is_alike-requires c = let inside : c.place_of-place.result < c.args.part.count = let a = c.args in
    place_inside a.part.count a.gone a.part.bytes.now a.m _ _ (omega (arith, c.left_count-n.ensures)) c.place_of-place.ensures in
    omega (arith, inside)

pub returns-then-is_alike : goal.returns-then-is_alike
returns-then-is_alike c = let a = c.args in
    let read = read_left a.part.count a.gone a.part.bytes.now a.m _ _ (omega (arith, c.left_count-n.ensures)) c.place_of-place.ensures _
    refl in
    sym
    (hit a.part.count a.gone a.part.bytes.now a.m _ _ (omega (arith, c.left_count-n.ensures)) c.place_of-place.ensures _ read
    (sym c.is_alike.ensures ∙ c.if-is_alike.true) c.places.invariant)

pub places-preserved : goal.places-preserved
places-preserved c = let a = c.args in
    let read = read_left a.part.count a.gone a.part.bytes.now a.m _ _ (omega (arith, c.left_count-n.ensures)) c.place_of-place.ensures _
    refl in
    missed_more a.part.count a.gone a.part.bytes.now a.m _ _ read (sym c.is_alike.ensures ∙ c.if-is_alike.false) c.places.invariant

pub returns : goal.returns
returns c = let a = c.args in
    sym (missed-all a.part.count a.gone a.part.bytes.now a.m _ (omega (arith, c.left_count-n.ensures)) c.places.invariant)
