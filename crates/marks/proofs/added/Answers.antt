-- `marks::added` meets its contract: the union with the set of one slot. Assumes nothing.
use mathlib.Core.Path.{◌∙◌}
use native.Mathlib.Omega.{arith}
use Rattle.marks.proofs.Laws.{single-below}
use Rattle.marks.proofs.Machine.{or-union, union-single}
use Rattle.marks.proofs.added.Goals as goal

pub returns : goal.returns
returns c = let a = c.args.a in
    let s = c.args.s in
    rw c.of_one.ensures (or-union a _ (omega arith) (single-below s) ∙ union-single a s)
