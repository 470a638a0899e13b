-- `face_lent::blank_pool` meets its contract: every place is blank, whatever the count. Assumes nothing.
use Rattle.face_lent.proofs.blank_pool.Goals as goal

pub returns : goal.returns
returns c = rw c.no_messages.ensures
