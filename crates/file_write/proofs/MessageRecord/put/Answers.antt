-- `the record of a message` meets its contract: ten numbers one after the other are the record. Assumes nothing.
use Rattle.file_write.proofs.Laws.{message-run}
use Rattle.file_write.proofs.MessageRecord.put.Goals as goal

pub returns : goal.returns
returns c = message-run c.args.self c.pair-a1.ensures c.pair-a2.ensures c.pair-a3.ensures c.pair-a4.ensures
    c.pair.ensures
