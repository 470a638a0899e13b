-- `image_pool::append` meets its contract. Assumes nothing.
use Rattle.image_pool.proofs.Appends.{appended}
use Rattle.image_pool.proofs.append.Goals as goal

pub returns : goal.returns
returns c = let a = c.args in
    appended a.n a.part.now _ _ a.m c.held.ensures c.put_message.ensures
