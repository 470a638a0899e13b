-- `step` meets its contract. What it tells first decides the definition's case: the table is sound, the action in range, the plan goes and
-- has room (Settles). Then three loops make the pool after the plan, one after the other. The gap: the places below `at` are those of what is
-- left, and those from it on are as they were (Closed). The slots, once the first new message is put (Put): what is written, followed by the
-- copies that are still to come, is what is to wait (Filling). The blanks: of the places below `at`, those past the count are blank (Blanked).
-- The measures: the places and the slots left. Assumes nothing.
use Rattle.std.proofs.Common.{◌++◌, take}
use Rattle.marks.specs.Marks.{size_of}
use Rattle.pool_laws.specs.InnerSending.{copies}
use Rattle.pool_laws.proofs.Gaps.{Closed, Filling, Blanked}
use Rattle.table_step.proofs.step.Given as goal

abbrev pub invariant-loop-at : goal.invariant-loop-at
invariant-loop-at l = Closed l.gone l.n l.initial.q l.q l.at

abbrev pub invariant-loop-s : goal.invariant-loop-s
invariant-loop-s l = Filling l.plan.each (take l.initial.n l.initial.q.places ++ copies l.plan.each l.initial.rest) l.rest l.n l.q

abbrev pub decreases-loop-s : goal.decreases-loop-s
decreases-loop-s l = size_of l.rest

abbrev pub invariant-loop-at-2 : goal.invariant-loop-at-2
invariant-loop-at-2 l = Blanked l.n l.initial.q l.q l.at
