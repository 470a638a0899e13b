-- `over_water::seat` meets its contract. The invariant: none of the first i is alike, so the seat is behind them. Assumes nothing.
use Rattle.water.specs.Water.{held_of}
use Rattle.over_water.proofs.Places.{Passed}
use Rattle.over_water.proofs.seat.Given as goal

abbrev pub invariant-loop-i : goal.invariant-loop-i
invariant-loop-i l = Passed (held_of l.s) l.r l.i
