-- `file_read::header_fits` meets its contract: the definition's tests, on the words that were read. Assumes nothing.
use Rattle.file.specs.Load.{header_fits}
use Rattle.file_read.proofs.header_fits.Goals as goal

pub returns : goal.returns
unfolding header_fits
returns c = rw (c.word-last.ensures, c.word-count.ensures, c.word-n.ensures, c.word-l.ensures, c.word-m.ensures)
