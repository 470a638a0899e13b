-- `over_rehearsal::checked` meets its contract. Assumes nothing.
use mathlib.Core.Path.{sym, ◌∙◌, ap}
use Prim.Native.Nat.{ℕ}
use Rattle.std.specs.Prelude.{Ok, Err}
use Rattle.rehearsal.specs.Rehearsal.{checked_of}
use Rattle.over_rehearsal.proofs.Laws.{one_more_lem}
use Rattle.over_rehearsal.proofs.checked.Goals as goal

pub returns-then-agrees : goal.returns-then-agrees
unfolding checked_of
returns-then-agrees c = let x = c.args in
    ap (λ (k : ℕ). record { verdict = Ok tt; steps = k; table = x.s.table; pool = x.s.pool }) (one_more_lem x.c.steps)
    ∙ rw (sym c.agrees.ensures ∙ c.if-agrees.true)

pub returns-else-agrees : goal.returns-else-agrees
unfolding checked_of
returns-else-agrees c = let x = c.args in
    ap (λ (k : ℕ). record { verdict = Err k; steps = x.c.steps; table = x.c.table; pool = x.c.pool }) (one_more_lem x.c.steps)
    ∙ rw (sym c.agrees.ensures ∙ c.if-agrees.false)
