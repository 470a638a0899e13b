-- `table_settled::ready_set` meets its contract: ready is the status 3. Assumes nothing.
use mathlib.Core.Path.{◌∙◌}
use Rattle.table_settled.proofs.Laws.{ready-slots}
use Rattle.table_settled.proofs.ready_set.Goals as goal

pub returns : goal.returns
returns c = c.slots_with.ensures ∙ ready-slots _
