-- `marks::count` meets its contract: the ones are as many as the members. Assumes nothing.
use native.Mathlib.Omega.{arith}
use Rattle.marks.proofs.Machine.{ones-size}
use Rattle.marks.proofs.count.Goals as goal

pub returns : goal.returns
returns c = ones-size c.args.a (omega arith)
