-- `face_dist::signed_distance` meets its contract. Assumes nothing.
use mathlib.Core.Path.{◌∙◌, sym}
use mir.Syntax.{w64}
use mir.Facts.{to_z-of_z}
use Rattle.face_dist.proofs.Laws.{two}
use Rattle.face_dist.proofs.signed_distance.Goals as goal

pub signed-requires : goal.signed-requires
signed-requires c = two _ _ _ (sym c.all_inside.ensures ∙ c.if-all_inside.true)

pub returns-then-all_inside : goal.returns-then-all_inside
returns-then-all_inside c = rw (← c.all_inside.ensures, c.if-all_inside.true, to_z-of_z {w = w64} (record { sfits = c.signed.type_inv }), c.signed.ensures)

pub returns-else-all_inside : goal.returns-else-all_inside
returns-else-all_inside c = rw (← c.all_inside.ensures, c.if-all_inside.false)
