-- `face_c::tarpudhriv_step` meets its contract: the number that was asked decides the definition's case. Assumes nothing.
use mathlib.Core.Path.{◌≡◌, sym, ap, ◌∙◌}
use mathlib.Core.List.{List}
use Prim.Native.Nat.{ℕ}
use Rattle.rules.specs.declared.Action.{Action}
use Rattle.face.specs.Calls.{loaded_of, next_of, left_by, moved_by}
use Rattle.face.specs.declared.Moved.{Moved}
use Rattle.std.specs.Prelude.{Option, Some, None, Result}
use Rattle.rules.specs.declared.Refusal.{Refusal}
use Rattle.face_c.specs.Words.{pack_of, wrote_in, unknown, step_word, step_left}
use Rattle.face_c.proofs.Counts.{moved-is, moved-small}
use Rattle.face_c.proofs.tarpudhriv_step.Goals as goal

module _ (q : Option Action) (file out : List ℕ) where
  step-known : (a : Action) → q ≡ Some a → (m : Result Moved Refusal) (new : List ℕ) (r : ℕ) → r ≡ pack_of (wrote_in m)
      → (m ≡ moved_by (next_of (loaded_of file) a) out) × (new ≡ left_by (next_of (loaded_of file) a) out)
      → (r ≡ step_word q file out) × (new ≡ step_left q file out)
  unfolding step_word step_left
  step-known a e m new r p k =
      (rw e (p ∙ ap (λ (x : Result Moved Refusal). pack_of (wrote_in x)) k.0 ∙ ap pack_of (moved-is (next_of (loaded_of file) a) out)), rw e k.1)

  step-unknown : q ≡ None → (unknown ≡ step_word q file out) × (out ≡ step_left q file out)
  unfolding step_word step_left
  step-unknown e = (rw e, rw e)

pub packed-requires : goal.packed-requires
packed-requires c = rw (c.written.ensures, c.step_file.ensures.r) (moved-small _ _)

pub returns-in-Some : goal.returns-in-Some
returns-in-Some c =
    let e = sym c.action_of.ensures ∙ c.in-Some.is in
    record {
      r = (step-known _ c.args.file.now c.args.out.now _ e _ _ _ (c.packed.ensures ∙ ap pack_of c.written.ensures) (c.step_file.ensures.r, c.step_file.ensures.left)).0;
      left = (step-known _ c.args.file.now c.args.out.now _ e _ _ _ (c.packed.ensures ∙ ap pack_of c.written.ensures) (c.step_file.ensures.r, c.step_file.ensures.left)).1;
    }

pub returns-in-None : goal.returns-in-None
returns-in-None c =
    let e = sym c.action_of.ensures ∙ c.in-None.is in
    record { r = (step-unknown _ _ _ e).0; left = (step-unknown _ _ _ e).1 }
