-- `file_read::load_records` meets its contract: each of its three returns is one of the ways in which the records end. Assumes nothing.
use mathlib.Core.Path.{sym, ◌∙◌}
use native.Mathlib.Omega.{arith}
use Rattle.file_read.proofs.Laws.{offsets-long}
use Rattle.file_read.proofs.Ends.{records-status, records-invalid, records-done}
use Rattle.file_read.proofs.load_records.Goals as goal

pub statuses_fit-requires : goal.statuses_fit-requires
statuses_fit-requires c = (omega (arith, offsets-long c.args.file.bytes.now c.args.file.fits.offsets), c.args.file.fits.offsets)

pub returns-then-not-statuses_fit : goal.returns-then-not-statuses_fit
returns-then-not-statuses_fit c = let a = c.args in
    c.refused.ensures
    ∙ sym (records-status a.file.bytes.now a.t a.p (sym c.statuses_fit.ensures ∙ c.if-not-statuses_fit.true))

pub returns-then-not-is_valid : goal.returns-then-not-is_valid
returns-then-not-is_valid c = let a = c.args in
    let e = sym c.is_valid.ensures ∙ c.if-not-is_valid.true in
    c.refused-then-not-is_valid.ensures
    ∙ sym (records-invalid a.file.bytes.now a.t a.p (rw (c.read_messages-q.ensures, c.read_table-u.ensures) at e))

pub returns : goal.returns
returns c = let a = c.args in
    let e = sym c.is_valid.ensures ∙ c.if-not-is_valid.false in
    rw (c.done.ensures, c.read_messages-q.ensures, c.read_table-u.ensures)
    (sym (records-done a.file.bytes.now a.t a.p (sym c.statuses_fit.ensures ∙ c.if-not-statuses_fit.false)
    (rw (c.read_messages-q.ensures, c.read_table-u.ensures) at e)))
