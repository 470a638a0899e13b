-- `the record` meets its contract: each field stands behind the one before it. Assumes nothing.
use mathlib.Core.Path.{sym}
use Rattle.file_read.proofs.Laws.{message-read}
use Rattle.file_read.proofs.MessageRecord.read.Goals as goal

pub returns : goal.returns
returns c =
    rw (
      c.read-10.ensures,
      c.read-9.ensures,
      c.read-8.ensures,
      c.read-7.ensures,
      c.read-6.ensures,
      c.read-5.ensures,
      c.read-4.ensures,
      c.read-3.ensures,
      c.read-2.ensures,
      c.read.ensures,
    )
    (sym (message-read c.args.part.now c.args.at))
