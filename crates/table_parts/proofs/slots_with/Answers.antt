-- The answers. Assumes nothing.
use mathlib.Core.Path.{◌≡◌, refl, sym, ◌∙◌}
use mathlib.Core.Logic.{inl, inr}
use borrow.Author.Tests.{eq-eqb, ne_eqb}
use native.Mathlib.Omega.{arith}
use Rattle.marks.specs.Marks.{gather}
use Rattle.table_parts.specs.InnerSlots.{slots_with}
use Rattle.marks.proofs.Laws.{gather-next}
use Rattle.table_parts.proofs.slots_with.Invariants.{is_with}
use Rattle.table_parts.proofs.slots_with.Goals as goal
use Rattle.table_parts.proofs.slots_with.Goals.{then-status_number-number, else-status_number-number}

pub loop-s-init : goal.loop-s-init
unfolding gather
loop-s-init c = refl

pub loop-s-preserved : goal.loop-s-preserved
loop-s-preserved c = let e = c.status_number.ensures in
    gather-next (is_with c.args.t c.args.number) c.loop-s.s c.loop-s.out c.if-status_number-number.out (omega arith) c.loop-s.invariant
    (elim c.if-status_number-number.branch [
      | then-status_number-number w ↦ inl (eq-eqb _ _ (sym e ∙ w.if-status_number-number.true), w.out-is ∙ w.added-out.ensures)
      | else-status_number-number w ↦ inr (ne_eqb _ _ (λ q. w.if-status_number-number.false (e ∙ q)), w.out-is)
    ])

pub returns : goal.returns
unfolding slots_with
returns c = let e : c.args.t.n ≡ c.loop-s.s = omega arith in
    rw e c.loop-s.invariant
