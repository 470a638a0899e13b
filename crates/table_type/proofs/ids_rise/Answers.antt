-- The answers. Assumes nothing.
use mathlib.Core.Path.{◌≡◌, refl, sym, ◌∙◌}
use native.Mathlib.Omega.{arith}
use Rattle.marks.specs.Marks.{all_to}
use Rattle.marks.proofs.Laws.{more, fails}
use Rattle.table_type.proofs.Starts.{ids-rising}
use Rattle.start.specs.Start.{id_rises}
use Rattle.table_type.proofs.ids_rise.Goals as goal

pub loop-s-init : goal.loop-s-init
unfolding all_to
loop-s-init c = refl

pub returns-then-not-id_rises : goal.returns-then-not-id_rises
returns-then-not-id_rises c = let a = c.args in
    rw ids-rising (sym (fails a.n (id_rises a.m a.ids.now) c.loop-s.s (omega arith) (sym c.id_rises.ensures ∙ c.if-not-id_rises.true)))

pub loop-s-preserved : goal.loop-s-preserved
loop-s-preserved c = let a = c.args in
    more c.loop-s.s (id_rises a.m a.ids.now) c.loop-s.invariant (sym c.id_rises.ensures ∙ c.if-not-id_rises.false)

pub returns : goal.returns
returns c = let e : c.loop-s.s ≡ c.args.n = omega arith in
    rw ids-rising (sym (rw e at c.loop-s.invariant))
