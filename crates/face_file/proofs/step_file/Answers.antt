-- `face_file::step_file` meets its contract: it is the step written, with what it says of the next hop. Assumes nothing.
use mathlib.Core.Path.{◌≡◌}
use mathlib.Core.List.{List}
use Prim.Native.Nat.{ℕ}
use Rattle.std.specs.Prelude.{Ok, Err}
use Rattle.rules.specs.declared.Refusal.{Refusal}
use Rattle.table_type.specs.declared.Stepped.{Stepped}
use Rattle.file.specs.Write.{Wrote}
use Rattle.std.proofs.lemmas.Result.{err_from_is_err_and}
use Rattle.face.specs.Calls.{wrote_by, moved_by}
use Rattle.face_file.proofs.step_file.Goals as goal

module _ (s : Stepped) (out : List ℕ) (w : Wrote) (k : w ≡ wrote_by s out) where
  written : (count : ℕ) → w ≡ Ok count → Ok (record { count = count; via = s.via }) ≡ moved_by s out
  unfolding moved_by
  written count e = rw (← k, e)

  refused : (why : Refusal) → w ≡ Err why → Err why ≡ moved_by s out
  unfolding moved_by
  refused why e = rw (← k, e)

pub returns-in_err-count-clause-r : goal.returns-in_err-count-clause-r
returns-in_err-count-clause-r c =
    let e = err_from_is_err_and c.from_residual.result c.from_residual.ensures.1 in
    rw (← c.loaded.ensures, ← c.next-s.ensures, e.1, e.2) (refused _ _ _ c.written.ensures.0 _ c.in_err-count.was)

pub returns-clause-r : goal.returns-clause-r
returns-clause-r c = rw (← c.loaded.ensures, ← c.next-s.ensures) (written _ _ _ c.written.ensures.0 _ c.in_ok-count.was)
