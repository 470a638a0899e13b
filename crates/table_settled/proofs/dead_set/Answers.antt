-- `table_settled::dead_set` meets its contract: dead is the status 0. Assumes nothing.
use mathlib.Core.Path.{◌∙◌}
use Rattle.table_settled.proofs.Laws.{dead-slots}
use Rattle.table_settled.proofs.dead_set.Goals as goal

pub returns : goal.returns
returns c = c.slots_with.ensures ∙ dead-slots _
