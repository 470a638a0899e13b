-- `parts::send_by` meets its contract. Assumes nothing.
use Rattle.parts.proofs.send_by.Goals as goal

pub returns : goal.returns
returns c = rw c.blank_message-none.ensures
