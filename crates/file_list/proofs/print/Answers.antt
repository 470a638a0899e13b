-- `file_list::print` meets its contract: the header line, then the lines of the lookups. Assumes nothing.
use Rattle.text.proofs.Runs.{then}
use Rattle.file_list.proofs.print.Goals as goal

pub returns : goal.returns
returns c = then c.put_text-at.ensures c.follow.ensures
