-- `table_parts::no_messages` meets its contract: every place is blank. Assumes nothing.
use Rattle.table_parts.proofs.no_messages.Goals as goal

pub returns : goal.returns
returns c = rw c.blank_message-none.ensures
