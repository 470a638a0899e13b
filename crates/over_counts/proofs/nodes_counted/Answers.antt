-- The answers. Assumes nothing.
use borrow.Author.Tests.{lt-ltb, le-ltb}
use mathlib.Core.Path.{◌≡◌, refl, ◌∙◌}
use mathlib.Core.Logic.{inl, inr}
use native.Mathlib.Omega.{arith}
use Rattle.marks.specs.Marks.{gather}
use Rattle.marks.proofs.Laws.{gather-next}
use Rattle.over_counts.proofs.nodes_counted.Invariants.{some_for}
use Rattle.over_counts.proofs.nodes_counted.Goals as goal
use Rattle.over_counts.proofs.nodes_counted.Goals.{then-counts-i-gt0, else-counts-i-gt0}

pub loop-i-init : goal.loop-i-init
unfolding gather
loop-i-init c = refl

pub loop-i-preserved : goal.loop-i-preserved
loop-i-preserved c = let f = some_for c.args.counts.now in
    gather-next f c.loop-i.i c.loop-i.set c.if-counts-i-gt0.set (omega arith) c.loop-i.invariant
    (elim c.if-counts-i-gt0.branch [
      | then-counts-i-gt0 w ↦ inl (lt-ltb 0 _ w.if-counts-i-gt0.true, w.set-is ∙ w.added-set.ensures)
      | else-counts-i-gt0 w ↦ inr (le-ltb 0 _ w.if-counts-i-gt0.false, w.set-is)
    ])

pub returns : goal.returns
returns c = let e : c.args.n ≡ c.loop-i.i = omega arith in
    rw e c.loop-i.invariant
