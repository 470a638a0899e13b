-- `run_driver::ids_in` meets its contract. The invariant: the first i ids are read. Assumes nothing.
use Rattle.std.proofs.Common.{◌≡◌, length, take}
use Rattle.run_driver.specs.Requests.{ids_in}
use Rattle.run_driver.proofs.asked.ids_in.Given as goal

abbrev pub invariant-loop-i : goal.invariant-loop-i
invariant-loop-i l = (65 ≡ length l.ids) × (take l.i l.ids ≡ ids_in l.i l.rest)
