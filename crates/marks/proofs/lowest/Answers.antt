-- `marks::lowest` meets its contract: the zeros below the lowest one lead to the least member, and 0 has none. Assumes nothing.
use native.Mathlib.Omega.{arith}
use lib.Count.{trailing_le}
use Rattle.marks.proofs.Machine.{zero-lowest, trailing-lowest}
use Rattle.marks.proofs.lowest.Goals as goal

pub overflow_cast-result : goal.overflow_cast-result
overflow_cast-result c = omega (arith, trailing_le 64 c.args.a)

pub returns-then-a-eq0 : goal.returns-then-a-eq0
returns-then-a-eq0 c = rw c.if-a-eq0.true zero-lowest

pub returns-else-a-eq0 : goal.returns-else-a-eq0
returns-else-a-eq0 c = trailing-lowest c.args.a (omega arith) (omega arith)
