-- `file_list::put_line` meets its contract: three fields, and the routings, one after the other. Assumes nothing.
use Rattle.file_list.proofs.Runs.{line-run}
use Rattle.file_list.proofs.put_line.Goals as goal

pub returns : goal.returns
returns c =
    let a = c.args in
    line-run a.ids.now a.m a.end a.letters.now c.put_field-a1.ensures c.put_field-a2.ensures c.put_end-a3.ensures
    c.put_byte-a4.ensures c.put_hops.ensures
