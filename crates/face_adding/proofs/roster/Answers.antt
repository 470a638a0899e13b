-- `face_adding::roster` makes a roster: its ids rise. Assumes nothing.
use Rattle.face_adding.proofs.Slots.{slots-listed}
use Rattle.face_adding.proofs.roster.Goals as goal

pub invariant_of-result : goal.invariant_of-result
invariant_of-result c = record { listed = slots-listed _ _ _ c.slot_ids.ensures c.requires }
