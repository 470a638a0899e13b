-- `file_read::messages` meets its contract: the message offset is where the definition's part begins. Assumes nothing.
use Rattle.file.specs.Load.{file_pool}
use Rattle.file_read.proofs.Laws.{rest-whole, fits_told}
use Rattle.file_read.proofs.messages.Goals as goal

pub returns-clause-bytes : goal.returns-clause-bytes
returns-clause-bytes c =
    let file = c.args.file.bytes.now in
    rw (rest-whole file c.word-at.result, c.word-at.ensures, (fits_told c.args.file.fits).1.1.1)

pub returns-clause-pool : goal.returns-clause-pool
unfolding file_pool
returns-clause-pool c =
    let file = c.args.file.bytes.now in
    rw (rest-whole file c.word-at.result, c.word-count.ensures, c.word-at.ensures, (fits_told c.args.file.fits).1.1.1)
