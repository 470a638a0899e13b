-- `image_pool::take_out` meets its contract: the records behind the gap are moved down by one. Assumes nothing.
use native.Mathlib.Omega.{arith}
use Rattle.image.proofs.Records.{taken_out}
use Rattle.image_pool.proofs.take_out.Goals as goal

pub returns : goal.returns
returns c = let a = c.args in
    taken_out a.size a.count a.p a.part.now _ (omega arith) (omega arith) c.move_down.ensures
