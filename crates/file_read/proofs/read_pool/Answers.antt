-- `file_read::read_pool` meets its contract: the messages are filled in front of blank places. Assumes nothing.
use Rattle.std.proofs.lemmas.List.{drop-replicate}
use Rattle.file.specs.Format.{message_widths, message_from}
use Rattle.rules.specs.Pool.{blank}
use Rattle.file.specs.Load.{part_pool}
use Rattle.file_read.proofs.Laws.{rows_long}
use Rattle.file_read.proofs.read_pool.Goals as goal

pub returns : goal.returns
unfolding part_pool
returns c =
    rw (
      c.fill.ensures,
      c.blank_message-places.ensures,
      drop-replicate c.args.part.count 256 blank,
      rows_long message_from message_widths 56 c.args.part.count c.args.part.bytes.now,
    )
