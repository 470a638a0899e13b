-- `face_dist::is_nearer` meets its contract. Assumes nothing.
use mathlib.Core.Path.{◌∙◌, sym}
use Rattle.face_dist.proofs.Laws.{three}
use Rattle.face_dist.proofs.is_nearer.Goals as goal

pub nearer-requires : goal.nearer-requires
nearer-requires c = three _ _ _ _ (sym c.all_inside.ensures ∙ c.if-all_inside.true)

pub returns-then-all_inside : goal.returns-then-all_inside
returns-then-all_inside c = rw (← c.all_inside.ensures, c.if-all_inside.true, c.nearer.ensures)

pub returns-else-all_inside : goal.returns-else-all_inside
returns-else-all_inside c = rw (← c.all_inside.ensures, c.if-all_inside.false)
