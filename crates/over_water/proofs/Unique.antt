-- Each public function has one reply for every input: any two that its contract allows are equal. Assumes nothing.
use mathlib.Core.Path.{◌≡◌, sym, ◌∙◌}
use Prim.Native.Nat.{ℕ}
use lib.IntN.{ℤ}
use Rattle.rules.specs.declared.Pool.{Pool}
use Rattle.table_type.specs.declared.Table.{Table}
use Rattle.water.specs.declared.Record.{Record}
use Rattle.std.specs.Prelude.{Option}
use Rattle.water.specs.declared.Held.{Held}
use Rattle.water.specs.declared.Store.{Store}
use Rattle.water.specs.Water.{Reply}
use Rattle.water.specs.declared.Placed.{Placed}
use Rattle.over_water.specs.Contract.{Number, Empty, Change, Place, LookUp, Sum}

pub number-unique : (r : Reply) (x x' : ℕ) → Number r x → Number r x' → x ≡ x'
number-unique r x x' h h' = h ∙ sym h'

pub empty-unique : (s s' : Store) → Empty s → Empty s' → s ≡ s'
empty-unique s s' h h' = h ∙ sym h'

pub change-unique : (r : Record) (x x' : ℤ) → Change r x → Change r x' → x ≡ x'
change-unique r x x' h h' = h ∙ sym h'

pub place-unique : (t : Table) (p : Pool) (len : ℕ) (s : Store) (r : Record) (x x' : Placed) → Place t p len s r x → Place t p len s r x' → x ≡ x'
place-unique t p len s r x x' h h' = h ∙ sym h'

pub look-up-unique : (s : Store) (key month : ℕ) (x x' : Option Held) → LookUp s key month x → LookUp s key month x' → x ≡ x'
look-up-unique s key month x x' h h' = h ∙ sym h'

pub sum-unique : (s : Store) (x x' : ℤ) → Sum s x → Sum s x' → x ≡ x'
sum-unique s x x' h h' = h ∙ sym h'
