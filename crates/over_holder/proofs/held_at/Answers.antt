-- `over_holder::held_at` meets its contract: what was found is a slot below n. Assumes nothing.
use Rattle.std.specs.Prelude.{Some}
use mathlib.Core.Path.{◌≡◌, sym, ◌∙◌}
use Prim.Native.Nat.{ℕ, ◌<◌, ◌≤◌}
use native.Mathlib.Omega.{arith}
use Rattle.marks.proofs.Slots.{first_found}
use Rattle.table_type.specs.declared.Table.{Table}
use Rattle.holder.specs.Holder.{ready_covers, covered_by}
use Rattle.over_holder.proofs.held_at.Goals as goal

found-low : (t : Table) (k h : ℕ) → t.n ≤ 64 → covered_by t k ≡ Some h → h < 64
unfolding covered_by
found-low t k h l e = omega (arith, (first_found t.n (ready_covers t k) h e).below)

pub copies-requires : goal.copies-requires
copies-requires c = let asked = c.requires.0 in
    (asked, found-low _ _ _ asked.n-high (sym c.covered_by-found.ensures ∙ c.in-Some.is))

pub returns-in-Some : goal.returns-in-Some
returns-in-Some c = rw (c.copies.ensures, ← c.covered_by-found.ensures, c.in-Some.is)

pub returns-in-None : goal.returns-in-None
returns-in-None c = rw (← c.covered_by-found.ensures, c.in-None.is)
