-- `marks::all_below` meets its contract: no mark is at n or above where nothing is left when n digits are shifted out. Assumes nothing.
use mathlib.Core.Path.{sym}
use native.Mathlib.Omega.{arith}
use Rattle.marks.proofs.Laws.{listed-every}
use Rattle.marks.proofs.Machine.{shifted-listed}
use Rattle.marks.proofs.all_below.Goals as goal

pub returns-then-n-lt64 : goal.returns-then-n-lt64
returns-then-n-lt64 c = shifted-listed c.args.a c.args.n (omega arith)

pub returns-else-n-lt64 : goal.returns-else-n-lt64
returns-else-n-lt64 c = sym (listed-every c.args.n c.args.a (omega arith))
