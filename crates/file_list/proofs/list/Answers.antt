-- `file_list::list` meets its contract: no room, or the listing of what the load left. Assumes nothing.
use native.Mathlib.Omega.{arith}
use Rattle.file_list.proofs.Ends.{loaded-by, lists-none, lists-done}
use Rattle.file_list.proofs.list.Goals as goal

pub returns-then-out-lt65536 : goal.returns-then-out-lt65536
returns-then-out-lt65536 c = let a = c.args in
    lists-none a.file.now a.out.now c.if-out-lt65536.true

pub put_loaded-requires : goal.put_loaded-requires
put_loaded-requires c = (loaded-by _ _ _ _ c.load-s.ensures, omega arith)

pub returns : goal.returns
returns c = let a = c.args in
    lists-done a.file.now a.out.now (omega arith) c.load-s.result c.no_table.ensures
    c.no_messages.ensures c.load-s.ensures c.put_loaded.ensures
