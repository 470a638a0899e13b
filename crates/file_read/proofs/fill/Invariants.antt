-- `file_read::fill` meets its contract. The invariant: the first s places hold the records passed, and the others what they held. Assumes nothing.
use mathlib.Core.Path.{◌≡◌}
use Rattle.file_read.proofs.Laws.{passed}
use Rattle.file_read.proofs.fill.Given as goal

abbrev pub invariant-loop-s : goal.invariant-loop-s
invariant-loop-s g l =
    let w = g.R.Record in
    l.places ≡ passed w.from w.widths w.SIZE l.part l.initial.places l.s
