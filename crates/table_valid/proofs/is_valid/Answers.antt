-- `table_valid::is_valid` meets its contract: the definition's three tests, in its order. The first bounds M and n for the others. Assumes nothing.
use mathlib.Core.Path.{◌≡◌, sym, ◌∙◌}
use mathlib.Core.Bool.{true}
use Rattle.rules.specs.declared.Pool.{Pool}
use Rattle.rules.specs.Fits.{numbers_fit}
use Rattle.table_type.specs.declared.Table.{Table}
use Rattle.table_type.specs.Table.{ids_of, ring_of}
use Rattle.table_laws.proofs.Sound.{Numbers, numbers-told}
use Rattle.table.specs.Valid.{nodes_fit, pool_fits, valid_of}
use Rattle.table_valid.proofs.Slots.{nodes-listed}
use Rattle.table_valid.proofs.is_valid.Goals as goal

pub returns-then-not-numbers_fit : goal.returns-then-not-numbers_fit
unfolding valid_of
returns-then-not-numbers_fit c = rw (← c.ring_of-g.ensures, ← c.numbers_fit.ensures, c.if-not-numbers_fit.true)

pub nodes_fit-requires : goal.nodes_fit-requires
nodes_fit-requires c = let narrow : Numbers c.ring_of-g.result = numbers-told c.ring_of-g.result (rw (← c.numbers_fit.ensures) (c.if-not-numbers_fit.false)) in
    let e = rw c.ring_of-g.ensures at (narrow) in
    (e.m-high, e.n-high)

pub returns-then-not-nodes_fit : goal.returns-then-not-nodes_fit
unfolding valid_of
returns-then-not-nodes_fit c = rw (
  ← c.ring_of-g.ensures,
  ← c.numbers_fit.ensures,
  c.if-not-numbers_fit.false,
  ← c.nodes_fit.ensures,
  c.if-not-nodes_fit.true,
)

pub roster-requires : goal.roster-requires
roster-requires c = let g = c.ring_of-g.ensures in
    let told = sym c.numbers_fit.ensures ∙ c.if-not-numbers_fit.false in
    let nodes = sym c.nodes_fit.ensures ∙ c.if-not-nodes_fit.false in
    nodes-listed _ (rw g at told) nodes

-- where the rest fits, the messages decide
decided : (t : Table) (p : Pool) → numbers_fit (ring_of t) ≡ true → nodes_fit t ≡ true → pool_fits (ring_of t) (ids_of t) p ≡ valid_of t p
unfolding valid_of
decided t p a b = rw (a, b)

pub returns : goal.returns
returns c = let told = sym c.numbers_fit.ensures ∙ c.if-not-numbers_fit.false in
    let nodes = sym c.nodes_fit.ensures ∙ c.if-not-nodes_fit.false in
    c.pool_fits.ensures
    ∙ rw (c.of-c.ensures, c.roster.ensures.ring, c.roster.ensures.ids) (decided _ _ (rw c.ring_of-g.ensures at told) nodes)
