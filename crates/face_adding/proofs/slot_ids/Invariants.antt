-- `face_adding::slot_ids` meets its contract. The invariant: the first s ids are written. Assumes nothing.
use Rattle.table_type.proofs.Laws.{Filled}
use Rattle.face_adding.proofs.slot_ids.Given as goal

abbrev pub invariant-loop-s : goal.invariant-loop-s
invariant-loop-s l = Filled 0 (λ i. i) l.s l.ids
