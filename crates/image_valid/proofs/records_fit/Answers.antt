-- `image_valid::records_fit` meets its contract: the definition's tests, in its order. The header bounds M and n for them. Assumes nothing.
use mathlib.Core.Path.{sym, ◌∙◌, ap}
use Rattle.rules.specs.declared.Ring.{Ring}
use Rattle.table_type.specs.Table.{ring_of}
use Rattle.table_laws.proofs.Sound.{Numbers, numbers-told}
use Rattle.table_valid.proofs.Slots.{nodes-listed}
use Rattle.file.specs.Load.{file_table}
use Rattle.file_read.proofs.Parts.{places-are}
use Rattle.image_valid.proofs.Records.{n-is, header-numbers}
use Rattle.image_valid.proofs.Ends.{nodes-fail, pool-decides}
use Rattle.image_valid.proofs.records_fit.Goals as goal

pub of-requires : goal.of-requires
of-requires c = let file = c.args.file in
    let narrow : Numbers (ring_of (file_table file.bytes.now)) = numbers-told _ (header-numbers file.bytes.now file.fits.header) in
    rw c.ring_in-ring.ensures narrow.n-high

pub returns-then-not-nodes_fit_in : goal.returns-then-not-nodes_fit_in
returns-then-not-nodes_fit_in c = sym (nodes-fail c.args.file.bytes.now (sym c.nodes_fit_in.ensures ∙ c.if-not-nodes_fit_in.true))

pub ids_in-ids-requires : goal.ids_in-ids-requires
ids_in-ids-requires c = ap (λ (g : Ring). g.n) c.ring_in-ring.ensures ∙ n-is c.args.file.bytes.now

pub invariant_of-roster : goal.invariant_of-roster
invariant_of-roster c = let file = c.args.file in
    let told = header-numbers file.bytes.now file.fits.header in
    let nodes = sym c.nodes_fit_in.ensures ∙ c.if-not-nodes_fit_in.false in
    record { listed = rw (c.ring_in-ring.ensures, c.ids_in-ids.ensures) (nodes-listed (file_table file.bytes.now) told nodes) }

pub pool_fits-requires : goal.pool_fits-requires
pool_fits-requires c = let p = c.messages.result in places-are p.count p.bytes.now p.few

pub returns : goal.returns
returns c = let file = c.args.file in
    pool-decides file.bytes.now c.ring_in-ring.result c.ids_in-ids.result _ file.fits.header (sym c.statuses_fit.ensures ∙ c.if-not-statuses_fit.false)
    (sym c.nodes_fit_in.ensures ∙ c.if-not-nodes_fit_in.false) c.ring_in-ring.ensures c.ids_in-ids.ensures
    (rw (← c.messages.ensures.pool) (c.pool_fits.ensures ∙ rw c.of-2.ensures))
