-- `pool::held` meets its contract. The invariant: the set is that of the messages before `at` of what is left. Assumes nothing.
use mathlib.Core.Path.{◌≡◌}
use lib.ListN.{take}
use Rattle.rules.specs.Mail.{removed_at}
use Rattle.pool_laws.specs.InnerSending.{held_of}
use Rattle.pool.proofs.held.Given as goal

abbrev pub invariant-loop-at : goal.invariant-loop-at
invariant-loop-at l = l.set ≡ held_of l.m (take l.at (removed_at l.waiting l.gone))
