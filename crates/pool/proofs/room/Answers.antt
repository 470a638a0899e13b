-- `pool::room` meets its contract. Assumes nothing.
use Rattle.std.proofs.Common.{rules}
use Rattle.pool_laws.proofs.Places.{left-few}
use Rattle.pool.proofs.room.Goals as goal

pub overflow_add-result-2 : goal.overflow_add-result-2
overflow_add-result-2 c = let few = left-few _ _ _ c.left_count.ensures in search rules
