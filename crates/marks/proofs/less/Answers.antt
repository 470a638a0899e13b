-- `marks::less` meets its contract: the digits of `& !` are those of the one set without the other. Assumes nothing.
use native.Mathlib.Omega.{arith}
use Rattle.marks.proofs.Machine.{and-without}
use Rattle.marks.proofs.less.Goals as goal

pub returns : goal.returns
returns c = and-without c.args.a c.args.b (omega arith) (omega arith)
