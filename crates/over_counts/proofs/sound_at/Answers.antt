-- `over_counts::sound_at` meets its contract: the tests of both definitions, in their order. Assumes nothing.
use mathlib.Core.Path.{◌≡◌, sym, ◌∙◌}
use mathlib.Core.Bool.{true}
use native.Mathlib.Omega.{arith}
use Rattle.rules.specs.declared.Refusal.TheVariants as no
use Rattle.counts.specs.Counts.{is_sound_counted}
use Rattle.counts.proofs.ByCase.{has-invalid, has-out, first-invalid, first_out}
use Rattle.over_counts.proofs.sound_at.Goals as goal

pub returns-then-not-is_sound-clause-refused : goal.returns-then-not-is_sound-clause-refused
returns-then-not-is_sound-clause-refused c = λ why e. let bad = sym c.is_sound.ensures ∙ c.if-not-is_sound.true in
    let same : no.Invalid ≡ why = cc in
    rw (← same) (sym (has-invalid _ _ bad _), sym (first-invalid _ _ bad _))

pub returns-then-x-i-clause-refused : goal.returns-then-x-i-clause-refused
returns-then-x-i-clause-refused c = λ why e. let good : is_sound_counted c.args.x c.args.len ≡ true = sym c.is_sound.ensures ∙ c.if-not-is_sound.false in
    let same : no.OutOfRange ≡ why = cc in
    rw (← same) (sym (has-out _ _ good _ (omega arith)), sym (first_out _ _ good _ (omega arith)))
