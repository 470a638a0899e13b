-- `face_dist::abs_dist` meets its contract. Assumes nothing.
use mathlib.Core.Path.{◌∙◌, sym}
use Prim.Native.Nat.{◌^◌, ◌<◌}
use native.Mathlib.Omega.{arith}
use Rattle.dist.proofs.Bounds.{back-pos, abs_dist-small}
use Rattle.face_dist.proofs.Laws.{two}
use Rattle.face_dist.proofs.abs_dist.Goals as goal

pub abs_dist-requires : goal.abs_dist-requires
abs_dist-requires c = two _ _ _ (sym c.all_inside.ensures ∙ c.if-all_inside.true)

pub overflow_cast-result : goal.overflow_cast-result
overflow_cast-result c = let small : c.abs_dist.result < 2 ^ 32 = rw c.abs_dist.ensures (abs_dist-small (two _ _ _ (sym c.all_inside.ensures ∙ c.if-all_inside.true))) in
    record { sfits = omega (arith, small) }

pub returns-then-all_inside : goal.returns-then-all_inside
returns-then-all_inside c = let small : c.abs_dist.result < 2 ^ 32 = rw c.abs_dist.ensures (abs_dist-small (two _ _ _ (sym c.all_inside.ensures ∙ c.if-all_inside.true))) in
    rw (← c.all_inside.ensures, c.if-all_inside.true, back-pos c.abs_dist.result (omega (arith, small)), c.abs_dist.ensures)

pub returns-else-all_inside : goal.returns-else-all_inside
returns-else-all_inside c = rw (← c.all_inside.ensures, c.if-all_inside.false)
