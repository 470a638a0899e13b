-- `image_pool::take_probes_out` meets its contract. The invariant: the turns up to `at` are made (Kept). Assumes nothing.
use Rattle.image_pool.proofs.Passes.{Kept}
use Rattle.image_pool.proofs.take_probes_out.Given as goal

abbrev pub invariant-loop-at : goal.invariant-loop-at
invariant-loop-at l = Kept l.i l.j l.count l.initial.part l.at l.kept l.part
