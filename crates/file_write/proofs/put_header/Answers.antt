-- `file_write::put_header` meets its contract: eight words one after the other are the header. Assumes nothing.
use Rattle.file_write.proofs.Laws.{header-run}
use Rattle.file_write.proofs.put_header.Goals as goal

pub returns : goal.returns
returns c = header-run _ _ _ _ c.pair-a1.ensures c.pair-a2.ensures c.pair-a3.ensures c.pair.ensures
