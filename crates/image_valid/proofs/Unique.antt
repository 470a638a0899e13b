-- `tested` has one reply for every file: any two that its contract allows are equal. Assumes nothing.
use Rattle.rules.specs.Shapes.{Answer}
use mathlib.Core.Path.{◌≡◌, sym, ◌∙◌}
use mathlib.Core.List.{List}
use Prim.Native.Nat.{ℕ}
use Rattle.rules.specs.declared.Pool.{Pool}
use Rattle.table_type.specs.declared.Table.{Table}
use Rattle.file.specs.Load.{file_table, file_pool, load_of}

-- what the caller is told: the answer of a load with a list of 256 places, whatever table and pool were there before
abbrev pub Told : List ℕ → Answer → Type 0
Told file r = (t : Table) (p : Pool) → r ≡ (load_of file t p 256).answer

pub tested-unique : (file : List ℕ) (r r' : Answer) → Told file r → Told file r' → r ≡ r'
tested-unique file r r' h h' = h (file_table file) (file_pool file) ∙ sym (h' (file_table file) (file_pool file))
