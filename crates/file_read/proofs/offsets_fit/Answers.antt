-- `file_read::offsets_fit` meets its contract: the definition's tests, on the words that were read. Assumes nothing.
use Rattle.file.specs.Load.{offsets_fit}
use Rattle.file_read.proofs.offsets_fit.Goals as goal

pub returns : goal.returns
unfolding offsets_fit
returns c = rw (c.word-total.ensures, c.word-messages.ensures, c.word-nodes.ensures, c.word-count.ensures, c.word-n.ensures)
