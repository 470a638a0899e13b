-- `table_type::ids_rise` meets its contract. The invariant: the first s ids are below 2^m and rise. Assumes nothing.
use mathlib.Core.Path.{◌≡◌}
use mathlib.Core.Bool.{true}
use Rattle.marks.specs.Marks.{all_to}
use Rattle.start.specs.Start.{id_rises}
use Rattle.table_type.proofs.ids_rise.Given as goal

abbrev pub invariant-loop-s : goal.invariant-loop-s
invariant-loop-s l = all_to l.s (id_rises l.m l.ids) ≡ true
