-- `face_lent::load` meets its contract: the list is copied in, the core reads the file, and the list is copied back. Assumes nothing.
use Rattle.std.proofs.Common.{length}
use Rattle.file.specs.Load.{load_of}
use Rattle.face_lent.proofs.Laws.{handed}
use Rattle.face_lent.proofs.load.Goals as goal

pub returns : goal.returns
returns c =
    let a = c.args in
    handed (λ p. load_of a.file.now a.table p (length a.pool.now)) _ _ _ _ _ _ c.take_in-x.ensures c.load-g.ensures c.give_back.ensures c.replied.ensures
