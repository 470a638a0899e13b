-- `over_counts::sound` meets its contract: where the test fails, the definition of the poll refuses too. Assumes nothing.
use mathlib.Core.Path.{◌≡◌, sym, ◌∙◌}
use Rattle.rules.specs.declared.Refusal.TheVariants as no
use Rattle.counts.proofs.ByCase.{polled-invalid}
use Rattle.over_counts.proofs.sound.Goals as goal

pub returns-else-is_sound-clause-refused : goal.returns-else-is_sound-clause-refused
returns-else-is_sound-clause-refused c = λ why e. let same : no.Invalid ≡ why = cc in
    rw (← same) (sym (polled-invalid _ _ (sym c.is_sound.ensures ∙ c.if-is_sound.false)))
