-- `image_valid::ids_in` meets its contract. The invariant: the first s slots hold the ids passed, and the others 0. Assumes nothing.
use mathlib.Core.Path.{◌≡◌}
use Rattle.image_valid.proofs.Records.{ids_to}
use Rattle.image_valid.proofs.ids_in.Given as goal

abbrev pub invariant-loop-s : goal.invariant-loop-s
invariant-loop-s l = l.ids ≡ ids_to l.file.bytes.now l.s
