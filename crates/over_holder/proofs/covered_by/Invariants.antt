-- `over_holder::covered_by` meets its contract. The invariant: no slot below s is ready and covers k. Assumes nothing.
use Rattle.marks.proofs.Laws.{NoneBelow}
use Rattle.holder.specs.Holder.{ready_covers}
use Rattle.over_holder.proofs.covered_by.Given as goal

abbrev pub invariant-loop-s : goal.invariant-loop-s
invariant-loop-s l = NoneBelow (ready_covers l.t l.k) l.s
