-- What is asked of, and said of, what a step, a load or a start leaves: where it is done, its table and messages are valid. Assumes nothing.
use Rattle.std.specs.Prelude.{◌≡◌, true, Ok}
use Rattle.table_type.specs.declared.Stepped.{Stepped}
use Rattle.table.specs.Valid.{valid_of}

abbrev pub ValidDone : Stepped → Type 0
ValidDone s = s.answer ≡ Ok tt → valid_of s.table s.pool ≡ true
