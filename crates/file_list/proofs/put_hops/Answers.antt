-- `file_list::put_hops` meets its contract: a field, the letters, and the end of the line. Assumes nothing.
use Rattle.file_list.proofs.Runs.{hops-run}
use Rattle.file_list.proofs.put_hops.Goals as goal

pub returns : goal.returns
returns c = hops-run c.args.letters.now c.put_field-a1.ensures c.put_via-a2.ensures c.put_byte.ensures
