-- `run_parts::show` is safe: the listing's bytes lie within the buffer. Assumes nothing.
use Rattle.std.proofs.Common.{◌≡◌, ◌≤◌, ◌∙◌, sym, ℕ, List, length}
use Rattle.std.specs.Prelude.{Ok}
use Rattle.std.proofs.lemmas.List.{length-take-le}
use mathlib.Core.Path.{subst}
use Rattle.file.specs.Write.{Wrote, count_of}
use Rattle.listing.specs.List.{list_of, listed_of}
use Rattle.file_list.proofs.Length.{list_inside}
use Rattle.run_parts.proofs.show.Goals as goal

inside : (file out new : List ℕ) (count : ℕ) → list_of file out ≡ Ok count → new ≡ listed_of file out → count ≤ length new
inside file out new count e f = rw f (subst (λ (w : Wrote). count_of w ≤ length (listed_of file out)) e (list_inside file out))

pub slice_bounds-out-end : goal.slice_bounds-out-end
slice_bounds-out-end g c = inside _ _ _ _ (sym c.list.ensures.0 ∙ c.in-Ok.is) c.list.ensures.1

pub slice_bounds-write_all-end : goal.slice_bounds-write_all-end
slice_bounds-write_all-end g c = sym (length-take-le _ _ (inside _ _ _ _ (sym c.list.ensures.0 ∙ c.in-Ok.is) c.list.ensures.1))
