-- `face_dist::fall` meets its contract. Assumes nothing.
use mathlib.Core.Path.{◌∙◌, sym}
use Prim.Native.Nat.{◌^◌, ◌<◌}
use native.Mathlib.Omega.{arith}
use Rattle.dist.proofs.Bounds.{back-pos, fall-small}
use Rattle.face_dist.proofs.Laws.{two}
use Rattle.face_dist.proofs.fall.Goals as goal

pub fall-requires : goal.fall-requires
fall-requires c = two _ _ _ (sym c.all_inside.ensures ∙ c.if-all_inside.true)

pub overflow_cast-result : goal.overflow_cast-result
overflow_cast-result c = let small : c.fall.result < 2 ^ 32 = rw c.fall.ensures (fall-small (two _ _ _ (sym c.all_inside.ensures ∙ c.if-all_inside.true))) in
    record { sfits = omega (arith, small) }

pub returns-then-all_inside : goal.returns-then-all_inside
returns-then-all_inside c = let small : c.fall.result < 2 ^ 32 = rw c.fall.ensures (fall-small (two _ _ _ (sym c.all_inside.ensures ∙ c.if-all_inside.true))) in
    rw (← c.all_inside.ensures, c.if-all_inside.true, back-pos c.fall.result (omega (arith, small)), c.fall.ensures)

pub returns-else-all_inside : goal.returns-else-all_inside
returns-else-all_inside c = rw (← c.all_inside.ensures, c.if-all_inside.false)
