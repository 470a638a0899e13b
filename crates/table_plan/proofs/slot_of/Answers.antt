-- `slot_of` meets its contract. Assumes nothing.
use borrow.Author.Tests.{lt-ltb, le-ltb}
use Rattle.table_plan.proofs.slot_of.Goals as goal

pub returns-then-x-lt256 : goal.returns-then-x-lt256
returns-then-x-lt256 c = rw (lt-ltb _ _ c.if-x-lt256.true)

pub returns-else-x-lt256 : goal.returns-else-x-lt256
returns-else-x-lt256 c = rw (le-ltb _ _ c.if-x-lt256.false)
