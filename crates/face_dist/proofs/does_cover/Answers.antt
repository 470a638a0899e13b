-- `face_dist::does_cover` meets its contract. Assumes nothing.
use mathlib.Core.Path.{◌∙◌, sym}
use Rattle.face_dist.proofs.Laws.{four}
use Rattle.face_dist.proofs.does_cover.Goals as goal

pub covers-requires : goal.covers-requires
covers-requires c = four _ _ _ _ _ (sym c.all_inside.ensures ∙ c.if-all_inside.true)

pub returns-then-all_inside : goal.returns-then-all_inside
returns-then-all_inside c = rw (← c.all_inside.ensures, c.if-all_inside.true, c.covers.ensures)

pub returns-else-all_inside : goal.returns-else-all_inside
returns-else-all_inside c = rw (← c.all_inside.ensures, c.if-all_inside.false)
