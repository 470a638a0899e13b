-- `face_file::written` meets its contract: the answer before the write decides the definition's case. Assumes nothing.
use mathlib.Core.Path.{◌≡◌}
use mathlib.Core.List.{List}
use Prim.Native.Nat.{ℕ}
use Rattle.rules.specs.declared.Refusal.{Refusal}
use Rattle.table_type.specs.declared.Stepped.{Stepped}
use Rattle.std.specs.Prelude.{Err, Ok}
use Rattle.std.proofs.lemmas.Result.{err_from_is_err_and}
use Rattle.file.specs.Write.{Wrote, wrote_of, written_of}
use Rattle.face.specs.Calls.{wrote_by, left_by}
use Rattle.face_file.proofs.written.Goals as goal

module _ (s : Stepped) (out : List ℕ) where
  written-done : s.answer ≡ Ok tt → (r : Wrote) (new : List ℕ)
      → (r ≡ wrote_of s.table s.pool 256 out) × (new ≡ written_of s.table s.pool 256 out)
      → (r ≡ wrote_by s out) × (new ≡ left_by s out)
  unfolding wrote_by left_by
  written-done e r new k = (rw e k.0, rw e k.1)

  written-refused : (why : Refusal) → s.answer ≡ Err why → (Err why ≡ wrote_by s out) × (out ≡ left_by s out)
  unfolding wrote_by left_by
  written-refused why e = (rw e, rw e)

pub returns-in_err-s : goal.returns-in_err-s
returns-in_err-s c =
    let e = err_from_is_err_and c.from_residual.result c.from_residual.ensures.1 in
    rw (e.1, e.2) (written-refused _ _ _ c.in_err-s.was)

pub returns : goal.returns
returns c = written-done _ _ c.in_ok-s.was _ _ c.write.ensures
