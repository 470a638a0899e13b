-- `some_up_lem` meets its contract. Assumes nothing.
use Rattle.table_settled.proofs.Laws.{ok-slots, ready-slots}
use Rattle.table_plan.proofs.some_up.Goals as goal

pub returns : goal.returns
returns c = let t = c.args.t in rw (c.slots_with-2.ensures, c.slots_with.ensures, ok-slots t, ready-slots t)
