-- `file_write::put_file` meets its contract: the header, the nodes and the messages, one after the other, are the file. Assumes nothing.
use borrow.Author.Rules.{rules}
use mathlib.Core.Path.{◌≡◌}
use native.Mathlib.Omega.{arith}
use lib.ListN.{length, take}
use lib.Seq.{length-take-le}
use Rattle.table_type.proofs.Laws.{length-mapped}
use Rattle.file_write.proofs.Laws.{file-run}
use Rattle.file_write.proofs.put_file.Goals as goal

pub returns : goal.returns
returns c =
    let t = c.args.t in
    let p = c.args.p in
    let slots : length t.nodes ≡ 64 = search (length-mapped, rules) in
    let places : length p.places ≡ 256 = search (length-mapped, rules) in
    let nodes : length (take t.n t.nodes) ≡ t.n = length-take-le t.n t.nodes (omega (arith, slots)) in
    let messages : length (take p.count p.places) ≡ p.count = length-take-le p.count p.places (omega (arith, places)) in
    file-run t p c.put_header-nodes.ensures (rw nodes at c.put_all-messages.ensures) (rw messages at c.put_all.ensures)
