-- `dist::rank` meets its contract: the way up counts where it is no longer than the way down. Assumes nothing.
use Rattle.std.proofs.Common.{arith}
use Rattle.ring.proofs.Order.{rank-rising, rank-falling}
use Rattle.dist.proofs.Bounds.{ring_of_lem, fall-small}
use Rattle.dist.proofs.rank.Goals as goal

pub overflow_mul-result : goal.overflow_mul-result
overflow_mul-result c = omega (arith, fall-small c.requires)

pub overflow_mul-result-else-f-g : goal.overflow_mul-result-else-f-g
overflow_mul-result-else-f-g c = omega (arith, fall-small c.requires)

pub overflow_add-result : goal.overflow_add-result
overflow_add-result c = omega (arith, fall-small c.requires)

pub returns-then-f-g : goal.returns-then-f-g
returns-then-f-g c = let h = c.requires in
    omega (arith, rank-rising _ (ring_of_lem h) _ _ h.first h.second (omega arith))

pub returns-else-f-g : goal.returns-else-f-g
returns-else-f-g c = let h = c.requires in
    omega (arith, rank-falling _ (ring_of_lem h) _ _ h.first h.second (omega arith))
