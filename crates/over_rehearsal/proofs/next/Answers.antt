-- `over_rehearsal::next` meets its contract: a done step leaves a valid table. Assumes nothing.
use mathlib.Core.Path.{sym, ◌∙◌}
use Rattle.table_laws.proofs.Proved.{keeps-valid}
use Rattle.rehearsal.specs.Rehearsal.{handed_of}
use Rattle.over_rehearsal.proofs.Laws.{open-low}
use Rattle.over_rehearsal.proofs.next.Goals as goal

pub returns-then-not-is_open : goal.returns-then-not-is_open
unfolding handed_of
returns-then-not-is_open c = rw (sym c.is_open.ensures ∙ c.if-not-is_open.true)

pub checked-requires : goal.checked-requires
checked-requires c = let x = c.args in (
  λ d. rw c.step-s.ensures (keeps-valid x.c.table x.c.pool 256 x.a (rw c.step-s.ensures at d)),
  open-low x.c.verdict x.c.steps (sym c.is_open.ensures ∙ c.if-not-is_open.false),
)

pub returns : goal.returns
unfolding handed_of
returns c = rw (sym c.is_open.ensures ∙ c.if-not-is_open.false, c.checked.ensures, c.step-s.ensures)
