-- The answers. Assumes nothing.
use native.Mathlib.Nat.{mul-zero}
use native.Mathlib.Omega.{arith}
use Rattle.words.specs.Bytes.{encode_all}
use Rattle.words.proofs.Puts.{stay}
use Rattle.file_write.proofs.Laws.{rows_more}
use Rattle.file_write.proofs.put_all.Goals as goal

pub loop-r-init : goal.loop-r-init
unfolding encode_all
loop-r-init g c = rw mul-zero (stay c.args.b.now c.args.at (omega arith))

pub loop-r-preserved : goal.loop-r-preserved
loop-r-preserved g c =
    rows_more g.R.Record.numbers g.R.Record.widths g.R.Record.size c.args.records.now c.loop-r.r-index c.r-item.result c.loop-r-test.true
    c.r-item.is c.loop-r.invariant c.put-to.ensures
