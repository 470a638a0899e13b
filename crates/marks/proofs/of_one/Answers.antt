-- `marks::of_one` meets its contract: a one shifted by less than 64 is that slot's set, and no mark stands for a slot from 64 on.
-- Assumes nothing.
use mathlib.Core.Path.{◌∙◌}
use native.Mathlib.Omega.{arith}
use native.Mathlib.Nat.{one-mul}
use lib.Dec.{lit<}
use lib.Pow.{shl_exact}
use Rattle.marks.proofs.Machine.{one_single, none-single}
use Rattle.marks.proofs.of_one.Goals as goal

pub returns-then-s-lt64 : goal.returns-then-s-lt64
returns-then-s-lt64 c = let s = c.args.s in
    shl_exact 1 s 64 (lit< tt) (omega arith) ∙ one-mul _ ∙ one_single s (omega arith)

pub returns-else-s-lt64 : goal.returns-else-s-lt64
returns-else-s-lt64 c = none-single c.args.s (omega arith)
