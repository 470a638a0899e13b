-- What following lookups asks of what a load leaves: where it is done, its table is valid. Definitions only. Assumes nothing.
use Rattle.std.specs.Prelude.{◌≡◌, true, Ok}
use Rattle.table_type.specs.declared.Stepped.{Stepped}
use Rattle.table.specs.Valid.{valid_of}

pub record Loaded (s : Stepped) : Type 0 where
  pub valid : s.answer ≡ Ok tt → valid_of s.table s.pool ≡ true
