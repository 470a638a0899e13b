-- `face_c::tarpudhriv_start` meets its contract: it is the start written, packed. Assumes nothing.
use mathlib.Core.Path.{ap, ◌∙◌}
use Rattle.face_c.specs.Words.{pack_of}
use Rattle.face_c.proofs.Counts.{wrote-by-small}
use Rattle.face_c.proofs.tarpudhriv_start.Goals as goal

pub packed-requires : goal.packed-requires
packed-requires c = rw c.start_file.ensures.r (wrote-by-small _ _)

pub returns : goal.returns
returns c = record { r = c.packed.ensures ∙ ap pack_of c.start_file.ensures.r; left = c.start_file.ensures.left }
