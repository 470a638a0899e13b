-- `marks::joined` meets its contract: the digits of `|` are those of the union. Assumes nothing.
use native.Mathlib.Omega.{arith}
use Rattle.marks.proofs.Machine.{or-union}
use Rattle.marks.proofs.joined.Goals as goal

pub returns : goal.returns
returns c = or-union c.args.a c.args.b (omega arith) (omega arith)
