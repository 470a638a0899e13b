-- `table_valid::lookup_fits` meets its contract: the hops are looked at where the rest fits, so that destination and key are in range. Assumes nothing.
use mathlib.Core.Path.{sym, ◌∙◌}
use mathlib.Core.Bool.{◌&&◌}
use borrow.Author.Tests.{ltb-true, not-false}
use lib.Dec.{ltb}
use Rattle.marks.proofs.Bools.{and_left, and_right}
use Rattle.table_valid.proofs.Hops.{key_in}
use Rattle.table_valid.proofs.lookup_fits.Goals as goal

pub hops_fit-requires : goal.hops_fit-requires
hops_fit-requires c = let k = c.key_fits in
    let to = ltb c.args.m.dest c.args.r.now.ring.n in
    let rest = not-false (to && k.result) c.if-not-m-r.false-raw in
    (key_in _ _ (sym k.ensures ∙ and_right to k.result rest), ltb-true _ _ (and_left to k.result rest))
