-- `over_water::sum` meets its contract. The invariant: the sum of the first i changes, each of them at most 2^34 in size. Assumes nothing.
use Rattle.water.specs.Water.{held_of}
use Rattle.over_water.proofs.Places.{Summed}
use Rattle.over_water.proofs.sum.Given as goal

abbrev pub invariant-loop-i : goal.invariant-loop-i
invariant-loop-i l = Summed (held_of l.s) l.i l.out
