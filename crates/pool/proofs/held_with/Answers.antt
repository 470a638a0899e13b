-- `pool::held_with` meets its contract. Assumes nothing.
use mathlib.Core.Path.{sym, ◌∙◌, ap}
use Rattle.rules.specs.Mail.{alike}
use Rattle.pool_laws.proofs.Sending.{held-with-yes, held-with-no}
use Rattle.pool.proofs.held_with.Goals as goal

pub returns-then-alike : goal.returns-then-alike
returns-then-alike c = c.added.ensures
    ∙ sym (held-with-yes _ _ _ (ap (alike _) (sym c.to_slot-one.ensures) ∙ sym c.alike.ensures ∙ c.if-alike.true))

pub returns-else-alike : goal.returns-else-alike
returns-else-alike c = sym (held-with-no _ _ _ (ap (alike _) (sym c.to_slot-one.ensures) ∙ sym c.alike.ensures ∙ c.if-alike.false))
