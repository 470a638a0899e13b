-- `over_counts::count_one` meets its contract: one store, and none for what is no slot. Assumes nothing.
use borrow.Author.Tests.{lt-ltb, le-ltb}
use native.Mathlib.Omega.{arith}
use Rattle.over_counts.specs.InnerWalk.{one_more}
use Rattle.over_counts.proofs.count_one.Goals as goal

pub overflow_add-counts : goal.overflow_add-counts
overflow_add-counts c = omega (arith, c.requires c.if-slot-lt64.true)

pub returns-then-slot-lt64 : goal.returns-then-slot-lt64
unfolding one_more
returns-then-slot-lt64 c = rw (lt-ltb c.args.slot 64 (omega arith))

pub returns-else-slot-lt64 : goal.returns-else-slot-lt64
unfolding one_more
returns-else-slot-lt64 c = rw (le-ltb c.args.slot 64 (omega arith))
