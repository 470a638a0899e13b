-- `table_parts::no_table` meets its contract: every slot is the node of no slot. Assumes nothing.
use Rattle.table_parts.proofs.no_table.Goals as goal

pub returns : goal.returns
returns c = rw c.no_node-none.ensures
