-- A table file past the tests of its header, and what its records leave. Definitions only. Assumes nothing.
use Rattle.std.specs.Prelude.{◌≡◌, true, cond, ◌&&◌, List, ℕ}
use Rattle.rules.specs.declared.Pool.{Pool}
use Rattle.rules.specs.declared.Refusal.TheVariants as no
use Rattle.table_type.specs.declared.Table.{Table}
use Rattle.table_type.specs.declared.Stepped.{Stepped}
use Rattle.table.specs.Settle.{refused_of, done_of}
use Rattle.table.specs.Valid.{valid_of}
use Rattle.file.specs.Load.{header_fits, offsets_fit, statuses_fit, file_table, file_pool}

-- neither 8 nor 9 is answered
pub record Fitting (bs : List ℕ) : Type 0 where
  pub header : header_fits bs ≡ true
  pub offsets : offsets_fit bs ≡ true

-- the last test of load_of
unfoldable pub records_of : List ℕ → Table → Pool → Stepped
records_of bs t p =
    cond (statuses_fit bs && valid_of (file_table bs) (file_pool bs)) (done_of (file_table bs) (file_pool bs)) (refused_of t p no.Invalid)
