-- `table_type::Table::start` meets its contract: the two tests are made in the definition's order, and ids that pass them are listed,
-- as start_nodes asks. Assumes nothing.
use mathlib.Core.Path.{◌≡◌, sym, ◌∙◌}
use mathlib.Core.Bool.{true}
use lib.ListN.{length}
use Rattle.start.specs.Start.{start_fits, list_fits, slot_ids}
use Rattle.table_type.proofs.Starts.{StartFits, start_fits_lem, list-fits, start-listed, start-header, start-invalid, start-done}
use Rattle.table_type.proofs.Table.start.Goals as goal

pub returns-then-not-start_fits : goal.returns-then-not-start_fits
returns-then-not-start_fits c = let e = sym c.start_fits.ensures ∙ c.if-not-start_fits.true in
    sym (start-header _ _ _ _ e)

pub slot_ids-all-requires : goal.slot_ids-all-requires
slot_ids-all-requires c = let numbers : let a = c.args in start_fits a.m a.l (length a.ids.now) ≡ true = sym c.start_fits.ensures ∙ c.if-not-start_fits.false in
    let numbers_fit_lem : let a = c.args in StartFits a.m a.l (length a.ids.now) = start_fits_lem _ _ _ (numbers) in
    (numbers_fit_lem).n-high

pub list_fits-requires : goal.list_fits-requires
list_fits-requires c = let numbers : let a = c.args in start_fits a.m a.l (length a.ids.now) ≡ true = sym c.start_fits.ensures ∙ c.if-not-start_fits.false in
    let numbers_fit_lem : let a = c.args in StartFits a.m a.l (length a.ids.now) = start_fits_lem _ _ _ (numbers) in
    let f = numbers_fit_lem in (f.m-high, f.n-high)

pub returns-then-not-list_fits : goal.returns-then-not-list_fits
returns-then-not-list_fits c = let numbers : let a = c.args in start_fits a.m a.l (length a.ids.now) ≡ true = sym c.start_fits.ensures ∙ c.if-not-start_fits.false in
    sym (start-invalid _ _ _ _ (numbers)
    (rw (← c.slot_ids-all.ensures) (sym c.list_fits.ensures ∙ c.if-not-list_fits.true)))

pub invariant_of-roster : goal.invariant_of-roster
invariant_of-roster c = let numbers : let a = c.args in start_fits a.m a.l (length a.ids.now) ≡ true = sym c.start_fits.ensures ∙ c.if-not-start_fits.false in
    let numbers_fit_lem : let a = c.args in StartFits a.m a.l (length a.ids.now) = start_fits_lem _ _ _ (numbers) in
    let list : let a = c.args in
    list_fits a.m (length a.ids.now) (slot_ids a.ids.now) a.a ≡ true = rw (← c.slot_ids-all.ensures) (sym c.list_fits.ensures ∙ c.if-not-list_fits.false) in
    record { listed = rw c.slot_ids-all.ensures (start-listed _ _ _ (numbers_fit_lem) (list-fits _ _ _ _ (list)).rise) }

pub returns : goal.returns
returns c = let numbers : let a = c.args in start_fits a.m a.l (length a.ids.now) ≡ true = sym c.start_fits.ensures ∙ c.if-not-start_fits.false in
    let list : let a = c.args in
    list_fits a.m (length a.ids.now) (slot_ids a.ids.now) a.a ≡ true = rw (← c.slot_ids-all.ensures) (sym c.list_fits.ensures ∙ c.if-not-list_fits.false) in
    rw (c.start_nodes-nodes.ensures, c.slot_ids-all.ensures) (sym (start-done _ _ _ _ (numbers) (list)))
