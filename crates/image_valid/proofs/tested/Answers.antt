-- `image_valid::tested` meets its contract: each of its five returns is one of the ways in which a load ends. Assumes nothing.
use mathlib.Core.Path.{sym, ◌∙◌}
use Rattle.file_read.specs.InnerRecords.{Fitting}
use Rattle.image_valid.proofs.Ends.{answer-short, answer-header, answer-offsets, answer-done, answer-invalid}
use Rattle.image_valid.proofs.tested.Goals as goal

pub returns-then-file-lt32 : goal.returns-then-file-lt32
returns-then-file-lt32 c = λ t p. answer-short c.args.file.now t p c.if-file-lt32.true

pub returns-then-not-header_fits : goal.returns-then-not-header_fits
returns-then-not-header_fits c = λ t p. answer-header c.args.file.now t p c.if-file-lt32.false (sym c.header_fits.ensures ∙ c.if-not-header_fits.true)

pub returns-then-not-offsets_fit : goal.returns-then-not-offsets_fit
returns-then-not-offsets_fit c = λ t p. answer-offsets c.args.file.now t p c.if-file-lt32.false (sym c.header_fits.ensures ∙ c.if-not-header_fits.false)
    (sym c.offsets_fit.ensures ∙ c.if-not-offsets_fit.true)

pub returns-then-records_fit : goal.returns-then-records_fit
returns-then-records_fit c = let fits : Fitting c.args.file.now = record {
  header = sym c.header_fits.ensures ∙ c.if-not-header_fits.false;
  offsets = sym c.offsets_fit.ensures ∙ c.if-not-offsets_fit.false;
} in
    λ t p. answer-done c.args.file.now t p c.if-file-lt32.false (fits) (sym c.records_fit.ensures ∙ c.if-records_fit.true)

pub returns-else-records_fit : goal.returns-else-records_fit
returns-else-records_fit c = let fits : Fitting c.args.file.now = record {
  header = sym c.header_fits.ensures ∙ c.if-not-header_fits.false;
  offsets = sym c.offsets_fit.ensures ∙ c.if-not-offsets_fit.false;
} in
    λ t p. answer-invalid c.args.file.now t p c.if-file-lt32.false (fits) (sym c.records_fit.ensures ∙ c.if-records_fit.false)
