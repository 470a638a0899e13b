-- `table_valid::place_fits` meets its contract: a lookup by its own test, and any other message by its kind, with no hops. Assumes nothing.
use mathlib.Core.Path.{◌∙◌}
use Rattle.table_valid.proofs.Hops.{lookup-is, other-is}
use Rattle.table_valid.proofs.place_fits.Goals as goal

pub returns-then-m-eq1 : goal.returns-then-m-eq1
returns-then-m-eq1 c = c.lookup_fits.ensures ∙ lookup-is _ _ _ c.if-m-eq1.true

pub returns-else-m-eq1 : goal.returns-else-m-eq1
returns-else-m-eq1 c = rw (c.message_fits.ensures, c.args.c.now.same) (other-is _ _ _ c.if-m-eq1.false)
