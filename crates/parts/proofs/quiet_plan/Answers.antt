-- `parts::quiet_plan` meets its contract. Assumes nothing.
use Rattle.parts.proofs.quiet_plan.Goals as goal

pub returns : goal.returns
returns c = rw c.blank_message-none.ensures
