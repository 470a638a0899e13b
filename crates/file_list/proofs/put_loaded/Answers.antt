-- `file_list::put_loaded` meets its contract, by the answer of the load. Assumes nothing.
use Rattle.file_list.proofs.Ends.{loaded-done, loaded-refused}
use Rattle.file_list.proofs.put_loaded.Goals as goal

pub print-requires : goal.print-requires
print-requires c = (c.requires.0.valid c.in-Ok.is, c.requires.1)

pub returns-in-Ok : goal.returns-in-Ok
returns-in-Ok c = loaded-done c.args.s c.in-Ok.is c.print.ensures

pub returns-in-Err : goal.returns-in-Err
returns-in-Err c = loaded-refused c.args.s _ c.in-Err.is c.put_refused.ensures
