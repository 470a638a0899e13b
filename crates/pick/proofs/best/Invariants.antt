-- `pick::best` meets its contract. The invariant: the members below some slot are looked at, and rest holds the others (Looked). The measure: how many are left.
-- Assumes nothing.
use Prim.Native.Nat.{◌^◌}
use Rattle.marks.specs.Marks.{size_of}
use Rattle.rules.specs.Pick.{ahead_of}
use Rattle.pick.proofs.Laws.{Looked}
use Rattle.pick.proofs.best.Given as goal

abbrev pub invariant-loop-s : goal.invariant-loop-s
invariant-loop-s l = Looked (ahead_of l.w (2 ^ l.m) l.k l.ids) l.set l.found l.rest

abbrev pub decreases-loop-s : goal.decreases-loop-s
decreases-loop-s l = size_of l.rest
