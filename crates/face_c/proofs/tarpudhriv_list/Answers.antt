-- `face_c::tarpudhriv_list` meets its contract: it is the listing, packed. Assumes nothing.
use mathlib.Core.Path.{ap, ◌∙◌}
use Rattle.face_c.specs.Words.{pack_of}
use Rattle.face_c.proofs.Counts.{list-small}
use Rattle.face_c.proofs.tarpudhriv_list.Goals as goal

pub packed-requires : goal.packed-requires
packed-requires c = rw c.list.ensures.0 (list-small _ _)

pub returns : goal.returns
returns c = record { r = c.packed.ensures ∙ ap pack_of c.list.ensures.0; left = c.list.ensures.1 }
