-- `table_valid::pool_fits` meets its contract: the definition's three tests, in its order. Before place k the messages passed fit, hops included. Before
-- place j the table has every place below j in its chain (Chained), and no two of them are equal (Differ); on the way down a chain all at or
-- above the link differ from j's message (Walk). The measure: the link. Assumes nothing.
use Prim.Native.Nat.{ℕ}
use mathlib.Core.Path.{◌≡◌}
use mathlib.Core.Bool.{Bool, true, ◌&&◌}
use mathlib.Core.List.{List}
use Rattle.marks.specs.Marks.{all_to}
use Rattle.rules.specs.declared.Ring.{Ring}
use Rattle.rules.specs.declared.Pool.{Pool}
use Rattle.rules.specs.Fits.{message_fits, hops_fit}
use Rattle.rules.specs.Pool.{message_at}
use Rattle.pool_laws.proofs.Chain.{Differ, Chained, Walk}
use Rattle.table_valid.proofs.pool_fits.Given as goal

abbrev pub fits_at : Ring → List ℕ → Pool → ℕ → Bool
fits_at g ids p q = message_fits g (message_at p q) && hops_fit g ids (message_at p q)

abbrev pub invariant-loop-k : goal.invariant-loop-k
invariant-loop-k g l = all_to l.k (fits_at l.c.roster.ring l.c.roster.ids (g.W.Waiting.pool l.p)) ≡ true

abbrev pub invariant-chain : goal.invariant-chain
invariant-chain g l = Walk (g.W.Waiting.pool l.p).places l.j l.at

abbrev pub decreases-chain : goal.decreases-chain
decreases-chain g l = l.at

abbrev pub invariant-loop-j : goal.invariant-loop-j
invariant-loop-j g l = let xs = (g.W.Waiting.pool l.p).places in Chained xs l.j l.heads l.next × Differ xs l.j
