-- `over_rehearsal::gives_in` meets its contract: a valid table is written whole, so the bytes that are counted are its file. Assumes nothing.
use mathlib.Core.Path.{◌≡◌, sym, ◌∙◌, ap}
use mathlib.Core.List.{List}
use Prim.Native.Nat.{ℕ, ◌≤◌}
use Rattle.rehearsal.specs.Rehearsal.{same}
use lib.ListN.{length, take}
use lib.Seq.{length-take-le}
use Rattle.std.proofs.lemmas.Bool.Decides.{Decides-eqb}
use Rattle.std.proofs.lemmas.Slice.Eq.{slice_eq-Decides}
use Rattle.file.specs.Format.{file_of}
use Rattle.file_write.proofs.Values.{held_of}
use Rattle.over_rehearsal.proofs.Laws.{same-is, not-refused, whole_long, whole-file}
use Rattle.over_rehearsal.proofs.gives_in.Goals as goal
use Rattle.over_rehearsal.proofs.gives_in.Goals.{In-Ok}

long : (c : In-Ok) → c.in-Ok.count ≤ length c.write.new.buf
long c = let a = c.args in
    rw c.write.ensures.1
    (whole_long a.t a.p a.file.now (held_of a.t a.p _ _ c.well_formed.0 c.well_formed.1.0) c.requires.0 c.requires.1 _ (sym c.write.ensures.0 ∙ c.in-Ok.is))

pub slice_bounds-eq-end : goal.slice_bounds-eq-end
slice_bounds-eq-end c = long c

pub slice_bounds-eq-end-in-Ok : goal.slice_bounds-eq-end-in-Ok
slice_bounds-eq-end-in-Ok c = sym (length-take-le _ _ (long c))

pub returns-in-Ok : goal.returns-in-Ok
returns-in-Ok c = let a = c.args in
    let file : take c.in-Ok.count c.write.new.buf ≡ file_of a.t a.p = rw c.write.ensures.1
    (whole-file a.t a.p a.file.now (held_of a.t a.p _ _ c.well_formed.0 c.well_formed.1.0) c.requires.0 c.requires.1 _ (sym c.write.ensures.0 ∙ c.in-Ok.is)) in
    same-is (take c.in-Ok.count c.write.new.buf) a.stated.now _
    (slice_eq-Decides Decides-eqb (take c.in-Ok.count c.write.new.buf) a.stated.now _ c.eq.ensures)
    ∙ ap (λ (bytes : List ℕ). same bytes a.stated.now) file

pub returns-in-Err : goal.returns-in-Err
returns-in-Err c = let a = c.args in
    absurd (not-refused a.t a.p a.file.now (held_of a.t a.p _ _ c.well_formed.0 c.well_formed.1.0) c.requires.0 c.requires.1 _ (sym c.write.ensures.0 ∙ c.in-Err.is))
