-- `file_read::load` meets its contract: each of its five returns is one of the ways in which a load ends. Assumes nothing.
use mathlib.Core.Path.{sym, ◌∙◌}
use Rattle.file_read.specs.InnerRecords.{Fitting}
use Rattle.file_read.proofs.Ends.{load-short, load-header, load-offsets, load-places, load_goes}
use Rattle.file_read.proofs.load.Goals as goal

pub returns-then-file-lt32 : goal.returns-then-file-lt32
returns-then-file-lt32 c = let a = c.args in
    c.refused.ensures ∙ sym (load-short a.file.now a.t a.p a.len c.if-file-lt32.true)

pub returns-then-not-header_fits : goal.returns-then-not-header_fits
returns-then-not-header_fits c = let a = c.args in
    c.refused-then-not-header_fits.ensures
    ∙ sym (load-header a.file.now a.t a.p a.len c.if-file-lt32.false
    (sym c.header_fits.ensures ∙ c.if-not-header_fits.true))

pub returns-then-not-offsets_fit : goal.returns-then-not-offsets_fit
returns-then-not-offsets_fit c = let a = c.args in
    c.refused-then-not-offsets_fit.ensures
    ∙ sym (load-offsets a.file.now a.t a.p a.len c.if-file-lt32.false
    (sym c.header_fits.ensures ∙ c.if-not-header_fits.false)
    (sym c.offsets_fit.ensures ∙ c.if-not-offsets_fit.true))

pub returns-then-len-ne256 : goal.returns-then-len-ne256
returns-then-len-ne256 c = let fits : Fitting c.args.file.now = record {
  header = sym c.header_fits.ensures ∙ c.if-not-header_fits.false;
  offsets = sym c.offsets_fit.ensures ∙ c.if-not-offsets_fit.false;
} in
    let a = c.args in
    c.refused-then-len-ne256.ensures
    ∙ sym (load-places a.file.now a.t a.p a.len c.if-file-lt32.false (fits) c.if-len-ne256.true)

pub returns : goal.returns
returns c = let fits : Fitting c.args.file.now = record {
  header = sym c.header_fits.ensures ∙ c.if-not-header_fits.false;
  offsets = sym c.offsets_fit.ensures ∙ c.if-not-offsets_fit.false;
} in
    let a = c.args in
    c.load_records.ensures
    ∙ sym (load_goes a.file.now a.t a.p a.len c.if-file-lt32.false (fits) c.if-len-ne256.false)
