-- T-13: what each public function promises of its reply, one predicate each, named as the function: its `ensures` cites it, and Unique says that one
-- reply meets it. Definitions only. Assumes nothing.
use Rattle.std.specs.Prelude.{◌≡◌, ℕ, ℤ, Option}
use Rattle.rules.specs.declared.Pool.{Pool}
use Rattle.table_type.specs.declared.Table.{Table}
use Rattle.water.specs.declared.Record.{Record}
use Rattle.water.specs.declared.Held.{Held}
use Rattle.water.specs.declared.Store.{Store}
use Rattle.water.specs.declared.Placed.{Placed}
use Rattle.water.specs.Water.{Reply, change_of, empty_store, place_of, looked_up, sum_of, reply_number}

abbrev pub Number : Reply → ℕ → Type 0
Number r x = x ≡ reply_number r

abbrev pub Empty : Store → Type 0
Empty r = r ≡ empty_store

abbrev pub Change : Record → ℤ → Type 0
Change r x = x ≡ change_of r

abbrev pub Place : Table → Pool → ℕ → Store → Record → Placed → Type 0
Place t p len s r x = x ≡ place_of t p len s r

abbrev pub LookUp : Store → ℕ → ℕ → Option Held → Type 0
LookUp s key month x = x ≡ looked_up s key month

abbrev pub Sum : Store → ℤ → Type 0
Sum s x = x ≡ sum_of s
