-- `over_water::kept` meets its contract: the count grows where the place is behind the last. Assumes nothing.
use borrow.Author.Tests.{le-leb, lt-leb}
use native.Mathlib.Numerals.{add-one}
use Rattle.water.specs.Water.{kept_at}
use Rattle.over_water.proofs.kept.Goals as goal

pub returns-then-out-i : goal.returns-then-out-i
unfolding kept_at
returns-then-out-i c = rw (le-leb _ _ c.if-out-i.true, add-one)

pub returns-else-out-i : goal.returns-else-out-i
unfolding kept_at
returns-else-out-i c = rw (lt-leb _ _ c.if-out-i.false)
