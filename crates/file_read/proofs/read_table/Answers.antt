-- `file_read::read_table` meets its contract: the nodes are filled in front of slots with no node. Assumes nothing.
use Rattle.std.proofs.lemmas.List.{drop-replicate}
use Rattle.rules.specs.Nodes.{no_node}
use Rattle.file.specs.Load.{file_table}
use Rattle.file_read.proofs.Laws.{rest-whole}
use Rattle.file_read.proofs.read_table.Goals as goal

pub returns : goal.returns
unfolding file_table
returns c =
    rw (
      c.fill.ensures,
      c.no_node-nodes.ensures,
      drop-replicate c.word-n.result 64 no_node,
      rest-whole c.args.file.bytes.now 32,
      c.word-n.ensures,
      c.word-l.ensures,
      c.word-m.ensures,
    )
