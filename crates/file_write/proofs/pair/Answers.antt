-- `file_write::pair` meets its contract: the one, then the other. Assumes nothing.
use Prim.Native.Nat.{◌+◌, ◌*◌}
use mathlib.Core.Path.{◌≡◌}
use native.Mathlib.Omega.{arith}
use Rattle.words.proofs.Puts.{follow}
use Rattle.file_write.proofs.pair.Goals as goal

pub returns : goal.returns
returns g c =
    let two : 2 * g.W.Word.SIZE ≡ g.W.Word.SIZE + g.W.Word.SIZE = omega arith in
    rw two (follow c.write-mid.ensures c.write.ensures)
