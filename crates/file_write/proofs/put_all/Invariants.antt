-- `file_write::put_all` meets its contract. The invariant: the records passed stand in the buffer, one after the other. Assumes nothing.
use mathlib.Core.List.{map}
use Prim.Native.Nat.{◌*◌}
use lib.ListN.{take}
use Rattle.words.specs.Bytes.{encode_all}
use Rattle.words.specs.InnerPut.{Put}
use Rattle.file_write.proofs.put_all.Given as goal

abbrev pub invariant-loop-r : goal.invariant-loop-r
invariant-loop-r g l =
    let w = g.R.Record in
    Put (w.size * l.r-index) l.initial.b l.at (encode_all w.widths (map w.numbers (take l.r-index l.records))) l.to l.b
