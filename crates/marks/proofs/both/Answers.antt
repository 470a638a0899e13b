-- `marks::both` meets its contract: the digits of `&` are those of the meet. Assumes nothing.
use native.Mathlib.Omega.{arith}
use Rattle.marks.proofs.Machine.{and-meet}
use Rattle.marks.proofs.both.Goals as goal

pub returns : goal.returns
returns c = and-meet c.args.a c.args.b (omega arith) (omega arith)
