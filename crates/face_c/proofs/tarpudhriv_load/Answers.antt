-- `face_c::tarpudhriv_load` meets its contract: it is the file written back, packed. Assumes nothing.
use mathlib.Core.Path.{ap, ◌∙◌}
use Rattle.face_c.specs.Words.{pack_of}
use Rattle.face_c.proofs.Counts.{wrote-by-small}
use Rattle.face_c.proofs.tarpudhriv_load.Goals as goal

pub packed-requires : goal.packed-requires
packed-requires c = rw c.reload.ensures.r (wrote-by-small _ _)

pub returns : goal.returns
returns c = record { r = c.packed.ensures ∙ ap pack_of c.reload.ensures.r; left = c.reload.ensures.left }
