-- `image_valid::nodes_fit_in` meets its contract. The invariant: the first s slots obey their rules, and low is the least id that slot s
-- may have. Assumes nothing.
use mathlib.Core.Path.{◌≡◌}
use mathlib.Core.Bool.{true}
use Rattle.marks.specs.Marks.{all_to}
use Rattle.table_type.specs.Table.{ids_of}
use Rattle.table_valid.proofs.Slots.{low_at}
use Rattle.file.specs.Load.{file_table}
use Rattle.image_valid.proofs.Records.{slot_in}
use Rattle.image_valid.proofs.nodes_fit_in.Given as goal

abbrev pub invariant-loop-s : goal.invariant-loop-s
invariant-loop-s l = (l.low ≡ low_at (ids_of (file_table l.file.bytes.now)) l.s) × (all_to l.s (slot_in (file_table l.file.bytes.now)) ≡ true)
