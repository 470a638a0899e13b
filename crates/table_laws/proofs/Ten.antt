-- A step answers 10 exactly if the table is not valid or its list has not 256 places: no action, and no kind of message, is refused with 10
-- by its own rules (Numbers). Assumes nothing.
use mathlib.Core.Path.{◌≡◌}
use mathlib.Core.Bool.{false}
use Prim.Native.Nat.{ℕ}
use native.Mathlib.Omega.{arith}
use Rattle.rules.specs.declared.Action.{Action}
use Rattle.rules.specs.declared.Pool.{Pool}
use Rattle.rules.specs.declared.Refusal.{Refusal}
use Rattle.rules.specs.Numbers.{refusal_number, answer_number}
use Rattle.table_type.specs.declared.Table.{Table}
use Rattle.step.specs.Step.{is_sound, step_of}
use Rattle.table_laws.proofs.By.{by-step}
use Rattle.table_laws.proofs.NumbersTold.{Refuses, ten, one, named, refuses, named-low}

module _ (t : Table) (p : Pool) (len : ℕ) (a : Action) where
  pub step-ten : answer_number (step_of t p len a).answer ≡ 10 → is_sound t p len ≡ false
  step-ten =
      by-step (λ s. answer_number s.answer ≡ 10 → is_sound t p len ≡ false) t p len a (λ why r. refused why (refuses t p len a why r))
      (λ x d e. absurd (omega arith))
    where
      refused : (why : Refusal) → Refuses t p len a why → refusal_number why ≡ 10 → is_sound t p len ≡ false
      refused why (ten s e) h = s
      refused why (one e) h = absurd (omega arith)
      refused why (named e) h = absurd (omega (arith, named-low p a why e))

  pub ten-step : is_sound t p len ≡ false → answer_number (step_of t p len a).answer ≡ 10
  unfolding step_of
  ten-step e = rw e
