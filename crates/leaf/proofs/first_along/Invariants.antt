-- `leaf::first_along` meets its contract. The invariant: the walk has come to d steps, taken `out`, and counted `got` (Walked). Assumes nothing.
use Rattle.rules_laws.proofs.Steps.{Walked}
use Rattle.leaf.proofs.first_along.Given as goal

abbrev pub invariant-loop-d : goal.invariant-loop-d
invariant-loop-d l = Walked l.up l.set l.i l.n l.l l.d l.out l.got
