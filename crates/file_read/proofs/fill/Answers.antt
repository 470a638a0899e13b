-- The answers. Assumes nothing.
use mathlib.Core.Path.{sym}
use native.Mathlib.Omega.{arith}
use Rattle.file_read.proofs.Laws.{passed_none, passed-more}
use Rattle.file_read.proofs.fill.Goals as goal

pub loop-s-init : goal.loop-s-init
loop-s-init g c =
    let w = g.R.Record in
    sym (passed_none w.from w.widths w.SIZE c.args.part.now c.args.places.now)

pub loop-s-preserved : goal.loop-s-preserved
loop-s-preserved g c =
    let w = g.R.Record in
    rw c.loop-s.invariant
    (passed-more w.from w.widths w.SIZE c.args.part.now c.args.places.now c.loop-s.s c.read.result (omega arith) (rw c.SIZE.ensures at c.read.ensures))
