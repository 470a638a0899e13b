-- The answers. Assumes nothing.
use mathlib.Core.Path.{◌≡◌, refl, sym, ◌∙◌}
use mathlib.Core.Bool.{◌&&◌}
use native.Mathlib.Omega.{arith}
use Rattle.marks.specs.Marks.{all_to}
use Rattle.marks.proofs.Laws.{more, fails}
use Rattle.table.specs.Valid.{nodes_fit}
use Rattle.table_valid.proofs.Slots.{low_at, low-next, slot-listed, slot-blank}
use Rattle.table_valid.proofs.nodes_fit.Invariants.{fits_at}
use Rattle.table_valid.proofs.nodes_fit.Goals as goal

pub loop-s-init : goal.loop-s-init
unfolding all_to low_at
loop-s-init c = (refl, refl)

pub returns-then-not-id_fits-node_fits : goal.returns-then-not-id_fits-node_fits
unfolding nodes_fit
returns-then-not-id_fits-node_fits c = let t = c.args.t in
    let s = c.loop-s.s in
    let turn : (c.id_fits.result && c.node_fits.result) ≡ fits_at t s =
    rw (c.node_fits.ensures, c.id_fits.ensures, c.of-all.ensures, c.ring_of.ensures, c.loop-s.invariant.0) (slot-listed t s (omega arith)) in
    sym (fails 64 (fits_at t) s (omega arith) (sym turn ∙ c.if-not-id_fits-node_fits.true))

pub loop-s-preserved : goal.loop-s-preserved
loop-s-preserved c = let t = c.args.t in
    let s = c.loop-s.s in
    let turn : (c.id_fits.result && c.node_fits.result) ≡ fits_at t s =
    rw (c.node_fits.ensures, c.id_fits.ensures, c.of-all.ensures, c.ring_of.ensures, c.loop-s.invariant.0) (slot-listed t s (omega arith)) in
    (low-next t s, more s (fits_at t) c.loop-s.invariant.1 (sym turn ∙ c.if-not-id_fits-node_fits.false))

pub returns-then-not-is_blank_node : goal.returns-then-not-is_blank_node
unfolding nodes_fit
returns-then-not-is_blank_node c = let t = c.args.t in
    let s = c.loop-s-2.s in
    sym (fails 64 (fits_at t) s (omega arith) (sym (c.is_blank_node.ensures ∙ slot-blank t s c.loop-s-2.auto.s) ∙ c.if-not-is_blank_node.true))

pub loop-s-2-preserved : goal.loop-s-2-preserved
loop-s-2-preserved c = let t = c.args.t in
    let s = c.loop-s-2.s in
    more s (fits_at t) c.loop-s-2.invariant (sym (c.is_blank_node.ensures ∙ slot-blank t s c.loop-s-2.auto.s) ∙ c.if-not-is_blank_node.false)

pub returns : goal.returns
unfolding nodes_fit
returns c = let e : 64 ≡ c.loop-s-2.s = omega arith in
    rw e (sym c.loop-s-2.invariant)
