-- `table_valid::is_farther` meets its contract: half the way to the other id, on the side that leads away from the key. Assumes nothing.
use mathlib.Core.Path.{sym, ◌∙◌}
use native.Mathlib.Omega.{arith}
use Rattle.dist.proofs.Bounds.{fall-small}
use Rattle.table_valid.proofs.Hops.{far-up, far-down}
use Rattle.table_valid.proofs.is_farther.Goals as goal

pub overflow_mul-result : goal.overflow_mul-result
overflow_mul-result c = let h = c.requires.0 in
    omega (arith, c.fall.ensures, fall-small (record { width = h.width; first = h.second; second = h.first }))

pub overflow_mul-result-else-up : goal.overflow_mul-result-else-up
overflow_mul-result-else-up c = omega (arith, c.fall-else-up.ensures, fall-small c.requires.0)

pub returns-then-up : goal.returns-then-up
returns-then-up c = let p = c.requires in
    rw (c.fall.ensures, c.fall-then-up.ensures) (far-up p.0 p.1 p.2 (sym p.3 ∙ c.if-up.true))

pub returns-else-up : goal.returns-else-up
returns-else-up c = let p = c.requires in
    rw (c.fall-else-up.ensures, c.fall-else-up-2.ensures) (far-down p.0 p.1 p.2 (sym p.3 ∙ c.if-up.false))
