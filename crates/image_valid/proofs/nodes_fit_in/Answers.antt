-- The answers. Assumes nothing.
use mathlib.Core.Path.{◌≡◌, refl, sym, ◌∙◌, ap}
use Prim.Native.Nat.{ℕ, ◌<◌}
use native.Mathlib.Omega.{arith}
use Rattle.marks.specs.Marks.{all_to}
use Rattle.marks.proofs.Laws.{more}
use Rattle.rules.specs.declared.Ring.{Ring}
use Rattle.table_laws.proofs.Sound.{numbers-told}
use Rattle.table_valid.proofs.Slots.{low_at}
use Rattle.file.specs.Load.{file_n, file_table}
use Rattle.file_read.proofs.Laws.{offsets-long, header-counts}
use Rattle.image_valid.proofs.Records.{slot_in, inside, node-past, header-numbers, slot_turn, low_turn, slot-fails, listed-decide}
use Rattle.image_valid.proofs.nodes_fit_in.Goals as goal

pub loop-s-init : goal.loop-s-init
unfolding all_to low_at
loop-s-init c = (refl, refl)

pub overflow_mul-s : goal.overflow_mul-s
overflow_mul-s c = let file = c.args.file in
    omega (arith, inside file.bytes.now _ c.loop-s.s c.requires (omega arith), header-counts file.bytes.now file.fits.header)

pub overflow_add-s : goal.overflow_add-s
overflow_add-s c = let file = c.args.file in
    omega (arith, inside file.bytes.now _ c.loop-s.s c.requires (omega arith), header-counts file.bytes.now file.fits.header)

pub read_node-v-requires : goal.read_node-v-requires
read_node-v-requires c = let file = c.args.file in
    omega (arith, inside file.bytes.now _ c.loop-s.s c.requires (omega arith), offsets-long file.bytes.now file.fits.offsets)

pub id_fits-requires : goal.id_fits-requires
id_fits-requires c = rw c.requires (numbers-told _ (header-numbers c.args.file.bytes.now c.args.file.fits.header)).m-high

pub returns-then-not-id_fits-node_fits : goal.returns-then-not-id_fits-node_fits
returns-then-not-id_fits-node_fits c = let file = c.args.file in
    let bs = file.bytes.now in
    let here : c.loop-s.s < file_n bs = inside bs _ c.loop-s.s c.requires (omega arith) in
    sym (slot-fails (file_table bs) c.loop-s.s (omega (arith, here, header-counts bs file.fits.header))
    (sym (slot_turn bs _ _ _ _ _ _ c.requires c.loop-s.invariant.0 here c.read_node-v.ensures c.id_fits.ensures c.node_fits.ensures)
    ∙ c.if-not-id_fits-node_fits.true))

pub loop-s-preserved : goal.loop-s-preserved
loop-s-preserved c = let bs = c.args.file.bytes.now in
    let here : c.loop-s.s < file_n bs = inside bs _ c.loop-s.s c.requires (omega arith) in (
      low_turn bs c.loop-s.s c.read_node-v.result here c.read_node-v.ensures,
      more c.loop-s.s (slot_in (file_table bs)) c.loop-s.invariant.1
          (sym (slot_turn bs _ _ _ _ _ _ c.requires c.loop-s.invariant.0 here c.read_node-v.ensures c.id_fits.ensures c.node_fits.ensures)
          ∙ c.if-not-id_fits-node_fits.false),
    )

pub returns : goal.returns
returns c = let t = file_table c.args.file.bytes.now in
    let e : t.n ≡ c.loop-s.s = omega (arith, ap (λ (g : Ring). g.n) c.requires) in
    sym (listed-decide t (node-past c.args.file.bytes.now) (ap (λ (i : ℕ). all_to i (slot_in t)) e ∙ c.loop-s.invariant.1))
