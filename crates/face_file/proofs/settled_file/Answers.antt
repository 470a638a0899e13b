-- `face_file::settled_file` meets its contract: the answer of the load decides the definition's case. Assumes nothing.
use mathlib.Core.Path.{◌≡◌, ◌∙◌}
use Rattle.rules.specs.declared.Refusal.{Refusal}
use Rattle.table_type.specs.declared.Stepped.{Stepped}
use Rattle.std.specs.Prelude.{Err, Ok}
use Rattle.std.proofs.lemmas.Result.{err_from_is_err_and}
use Rattle.face.specs.Asked.{rest_of}
use Rattle.face.specs.Calls.{rest_by}
use Rattle.face_file.proofs.settled_file.Goals as goal

module _ (s full : Stepped) (is : s ≡ full) where
  rest-done : s.answer ≡ Ok tt → rest_of s.table s.pool 256 ≡ rest_by full
  unfolding rest_by
  rest-done e = rw (← is, e)

  rest-refused : (why : Refusal) → s.answer ≡ Err why → Err why ≡ rest_by full
  unfolding rest_by
  rest-refused why e = rw (← is, e)

pub returns-in_err-s : goal.returns-in_err-s
returns-in_err-s c =
    let e = err_from_is_err_and c.from_residual.result c.from_residual.ensures.1 in
    rw (e.1, e.2) (rest-refused c.loaded-s.result _ c.loaded-s.ensures _ c.in_err-s.was)

pub returns : goal.returns
returns c = c.settled.ensures ∙ rest-done c.loaded-s.result _ c.loaded-s.ensures c.in_ok-s.was
