-- `marks::is_in` meets its contract: below 64 the code is the definition, and from there on 64 digits have no mark. Assumes nothing.
use mathlib.Core.Path.{refl, sym}
use native.Mathlib.Omega.{arith}
use Rattle.marks.specs.Marks.{has}
use Rattle.marks.proofs.Laws.{has-high}
use Rattle.marks.proofs.is_in.Goals as goal

pub returns-then-s-lt64 : goal.returns-then-s-lt64
unfolding has
returns-then-s-lt64 c = refl

pub returns-else-s-lt64 : goal.returns-else-s-lt64
returns-else-s-lt64 c = sym (has-high 64 c.args.set c.args.s (omega arith) (omega arith))
