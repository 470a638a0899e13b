-- The answers. Assumes nothing.
use mathlib.Core.Path.{◌≡◌, sym, ◌∙◌, ap}
use native.Mathlib.Omega.{arith}
use Rattle.file.specs.Load.{file_n}
use Rattle.file_read.proofs.Laws.{header-counts}
use Rattle.image_valid.proofs.Records.{ids_to, ids-none, ids_more, ids-are}
use Rattle.image_valid.proofs.ids_in.Goals as goal

pub loop-s-init : goal.loop-s-init
loop-s-init c = ids-none c.args.file.bytes.now

pub loop-s-preserved : goal.loop-s-preserved
loop-s-preserved c =
    ids_more c.args.file.bytes.now _ c.loop-s.s _ (omega (arith, c.requires, header-counts c.args.file.bytes.now c.args.file.fits.header)) c.loop-s.invariant c.read.ensures

pub returns : goal.returns
returns c =
    let e : c.loop-s.s ≡ file_n c.args.file.bytes.now = omega arith in
    c.loop-s.invariant ∙ ap (ids_to c.args.file.bytes.now) e ∙ sym (ids-are c.args.file.bytes.now)
