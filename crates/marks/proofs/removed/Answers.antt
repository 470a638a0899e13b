-- `marks::removed` meets its contract: the set without the set of one slot. Assumes nothing.
use mathlib.Core.Path.{◌∙◌}
use native.Mathlib.Omega.{arith}
use Rattle.marks.proofs.Laws.{single-below}
use Rattle.marks.proofs.Machine.{and-without, without-single}
use Rattle.marks.proofs.removed.Goals as goal

pub returns : goal.returns
returns c = let a = c.args.a in
    let s = c.args.s in
    rw c.of_one.ensures (and-without a _ (omega arith) (single-below s) ∙ without-single a s)
