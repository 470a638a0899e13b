-- `file_read::statuses_fit` meets its contract. The invariant: the statuses passed are each one of 0 to 3. Assumes nothing.
use mathlib.Core.Path.{◌≡◌}
use mathlib.Core.Bool.{Bool, true}
use mathlib.Core.List.{List}
use Prim.Native.Nat.{ℕ, ◌+◌, ◌*◌}
use lib.Dec.{leb}
use lib.ListN.{get_or, drop}
use Rattle.marks.specs.Marks.{all_to}
use Rattle.words.specs.Bytes.{decode}
use Rattle.file.specs.Format.{node_widths, nodes_at}
use Rattle.file_read.proofs.statuses_fit.Given as goal

-- the status of node s is one of 0 to 3
abbrev pub fits_at : List ℕ → ℕ → Bool
fits_at bs s = leb (get_or (decode node_widths (drop (nodes_at + 64 * s) bs)) 1 0) 3

abbrev pub invariant-loop-s : goal.invariant-loop-s
invariant-loop-s l = all_to l.s (fits_at l.bs) ≡ true
