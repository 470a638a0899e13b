-- `image_valid::ring_in` meets its contract: the words that were read are the table's. Assumes nothing.
use Rattle.file.specs.Load.{file_table}
use Rattle.image_valid.proofs.ring_in.Goals as goal

pub returns : goal.returns
unfolding file_table
returns c = rw (c.word-n.ensures, c.word-l.ensures, c.word-m.ensures)
