-- The slots of a table whose node has a status, by 01's number of it. Definitions only. Assumes nothing.
use Rattle.std.specs.Prelude.{ℕ, eqb}
use Rattle.marks.specs.Marks.{gather}
use Rattle.rules.specs.Numbers.{status_number}
use Rattle.table_type.specs.declared.Table.{Table}
use Rattle.table_type.specs.Table.{node_at}

unfoldable pub slots_with : Table → ℕ → ℕ
slots_with t number = gather t.n (λ s. eqb (status_number (node_at t s).status) number)
