-- `face_lent::start` meets its contract: the list is copied in, the core starts, and the list is copied back. Assumes nothing.
use Rattle.std.proofs.Common.{length}
use Rattle.face.specs.Asked.{start_step}
use Rattle.face_lent.proofs.Laws.{handed}
use Rattle.face_lent.proofs.start.Goals as goal

pub returns : goal.returns
returns c =
    let a = c.args in
    handed (λ p. start_step a.table p (length a.pool.now) a.m a.l a.ids.now a.a) _ _ _ _ _ _ c.take_in-x.ensures c.start-g.ensures c.give_back.ensures c.replied.ensures
