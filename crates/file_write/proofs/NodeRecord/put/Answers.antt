-- `file_write::put_node` meets its contract: nine numbers one after the other are the record. Assumes nothing.
use Rattle.file_write.proofs.Laws.{node-run}
use Rattle.file_write.proofs.NodeRecord.put.Goals as goal

pub returns : goal.returns
returns c = node-run c.args.self _ c.status_number-number.ensures c.pair-a1.ensures c.pair-a2.ensures
    c.pair-a3.ensures c.pair-a4.ensures c.write.ensures
