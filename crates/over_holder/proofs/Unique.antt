-- Each public function has one reply for every input: any two that its contract allows are equal. Assumes nothing.
use mathlib.Core.Path.{◌≡◌, sym, ◌∙◌}
use Prim.Native.Nat.{ℕ}
use Rattle.rules.specs.declared.Pool.{Pool}
use Rattle.table_type.specs.declared.Table.{Table}
use Rattle.holder.specs.Holder.{Holding}
use Rattle.over_holder.specs.Contract.{HeldBy, Number}

pub held-by-unique : (t : Table) (p : Pool) (len k : ℕ) (r r' : Holding) → HeldBy t p len k r → HeldBy t p len k r' → r ≡ r'
held-by-unique t p len k r r' h h' = h ∙ sym h'

pub number-unique : (h : Holding) (x x' : ℕ) → Number h x → Number h x' → x ≡ x'
number-unique h x x' e e' = e ∙ sym e'
