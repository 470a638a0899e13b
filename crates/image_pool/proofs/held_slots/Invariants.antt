-- `image_pool::held_slots` meets its contract. The invariant: the set is that of the messages before `at` (Seen). Assumes nothing.
use Rattle.image.specs.InnerRecords.{messages_in}
use Rattle.image_pool.proofs.Sends.{Seen}
use Rattle.image_pool.proofs.held_slots.Given as goal

abbrev pub invariant-loop-at : goal.invariant-loop-at
invariant-loop-at l = Seen l.m (messages_in l.part.count l.part.bytes.now) l.at l.set
