-- T-13: what each public function promises of its reply, one predicate each, named as the function: its `ensures` cites it, and Unique says that one
-- reply meets it. Definitions only. Assumes nothing.
use Rattle.std.specs.Prelude.{◌≡◌, ℕ}
use Rattle.rules.specs.declared.Pool.{Pool}
use Rattle.table_type.specs.declared.Table.{Table}
use Rattle.holder.specs.Holder.{Holding, holding_of, holding_number}

abbrev pub HeldBy : Table → Pool → ℕ → ℕ → Holding → Type 0
HeldBy t p len k r = r ≡ holding_of t p len k

abbrev pub Number : Holding → ℕ → Type 0
Number h x = x ≡ holding_number h
