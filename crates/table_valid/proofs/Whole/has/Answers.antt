-- `has` of the whole meets its contract: nothing is left of the set without all listed nodes. Assumes nothing.
use mathlib.Core.Path.{◌∙◌}
use Rattle.table_valid.proofs.Nodes.{part-listed}
use Rattle.table_valid.proofs.Whole.has.Goals as goal

pub returns : goal.returns
returns c = c.is_part.ensures ∙ rw c.args.self.all (part-listed c.args.self.ring.n c.args.set)
