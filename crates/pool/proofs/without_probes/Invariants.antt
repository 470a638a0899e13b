-- `pool::without_probes` meets its contract. The invariant: of the messages passed those that stay are written and counted (Kept), no more than there are.
-- Assumes nothing.
use Prim.Native.Nat.{◌≤◌}
use Rattle.pool_laws.proofs.Probes.{Kept}
use Rattle.pool.proofs.without_probes.Given as goal

abbrev pub invariant-loop-m : goal.invariant-loop-m
invariant-loop-m l = (l.count ≤ l.m-index) × Kept l.i l.j l.waiting l.m-index l.count l.places
