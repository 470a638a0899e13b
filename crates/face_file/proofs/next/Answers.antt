-- `face_file::next` meets its contract: the answer before the step decides the definition's case. Assumes nothing.
use Rattle.std.specs.Prelude.{Ok, Err}
use mathlib.Core.Path.{◌≡◌, ◌∙◌}
use Rattle.rules.specs.declared.Action.{Action}
use Rattle.rules.specs.declared.Refusal.{Refusal}
use Rattle.table_type.specs.declared.Stepped.{Stepped}
use Rattle.table.specs.Settle.{refused_of}
use Rattle.step.specs.Step.{step_of}
use Rattle.face.specs.Calls.{next_of}
use Rattle.face_file.proofs.next.Goals as goal

module _ (s : Stepped) (a : Action) where
  next-done : s.answer ≡ Ok tt → step_of s.table s.pool 256 a ≡ next_of s a
  unfolding next_of
  next-done e = rw e

  next-refused : (why : Refusal) → s.answer ≡ Err why → refused_of s.table s.pool why ≡ next_of s a
  unfolding next_of
  next-refused why e = rw e

pub returns-in-Ok : goal.returns-in-Ok
returns-in-Ok c = let e = next-done c.args.s c.args.a c.in-Ok.is in cc

pub returns-in-Err : goal.returns-in-Err
returns-in-Err c = c.refused.ensures ∙ next-refused _ _ _ c.in-Err.is
