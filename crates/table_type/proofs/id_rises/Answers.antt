-- `table_type::id_rises` meets its contract: the first slot has no id before it. Assumes nothing.
use borrow.Author.Tests.{eq-eqb, ne_eqb}
use mathlib.Core.Bool.{and-true}
use native.Mathlib.Numerals.{sub-one}
use Rattle.table_type.proofs.id_rises.Goals as goal

pub returns-then-s-eq0 : goal.returns-then-s-eq0
returns-then-s-eq0 c = rw (c.below_size-below.ensures, eq-eqb c.args.s 0 c.if-s-eq0.true, and-true)

pub returns : goal.returns
returns c = rw (c.below_size-below.ensures, ne_eqb c.args.s 0 c.if-s-eq0.false, sub-one)
