-- `face_lent::step` meets its contract: the list is copied in, the core steps, and the list is copied back. Assumes nothing.
use Rattle.std.proofs.Common.{length}
use Rattle.step.specs.Step.{step_of}
use Rattle.face_lent.proofs.Laws.{handed}
use Rattle.face_lent.proofs.step.Goals as goal

pub returns : goal.returns
returns c =
    let a = c.args in
    handed (λ p. step_of a.table p (length a.pool.now) a.action) _ _ _ _ _ _ c.take_in-x.ensures c.step-g.ensures c.give_back.ensures c.replied.ensures
