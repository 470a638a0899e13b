-- The answers. Assumes nothing.
use mathlib.Core.Path.{◌≡◌, refl, sym, ◌∙◌}
use Prim.Native.Nat.{◌+◌, ◌*◌}
use native.Mathlib.Omega.{arith}
use borrow.Author.Tests.{le-leb, lt-leb}
use lib.ListN.{length, get_or, drop}
use Rattle.marks.specs.Marks.{all_to}
use Rattle.marks.proofs.Laws.{more, fails}
use Rattle.words.specs.Bytes.{decode}
use Rattle.words.proofs.Codec.{decode-at}
use Rattle.file.specs.Format.{node_widths, nodes_at, total_of}
use Rattle.file.specs.Load.{file_n, file_count, statuses_fit}
use Rattle.file_read.proofs.Laws.{offsets-long}
use Rattle.file_read.proofs.statuses_fit.Invariants.{fits_at}
use Rattle.file_read.proofs.statuses_fit.Goals as goal

pub loop-s-init : goal.loop-s-init
unfolding all_to
loop-s-init c = refl

pub read-requires : goal.read-requires
read-requires c = let long : length c.args.bs.now ≡ total_of (file_n c.args.bs.now) (file_count c.args.bs.now) = offsets-long c.args.bs.now c.requires.1 in
    omega (arith, long)

pub returns-then-read-gt3 : goal.returns-then-read-gt3
unfolding statuses_fit
returns-then-read-gt3 c = let status : let bs = c.args.bs.now in
    get_or (decode node_widths (drop (nodes_at + 64 * c.loop-s.s) bs)) 1 0 ≡ c.read.result = let bs = c.args.bs.now in
    decode-at node_widths bs (nodes_at + 64 * c.loop-s.s) 1 (omega arith) ∙ sym c.read.ensures in
    let bs = c.args.bs.now in
    sym (fails (file_n bs) (fits_at bs) c.loop-s.s (omega arith) (rw (status) (lt-leb _ 3 c.if-read-gt3.true)))

pub loop-s-preserved : goal.loop-s-preserved
loop-s-preserved c = let status : let bs = c.args.bs.now in
    get_or (decode node_widths (drop (nodes_at + 64 * c.loop-s.s) bs)) 1 0 ≡ c.read.result = let bs = c.args.bs.now in
    decode-at node_widths bs (nodes_at + 64 * c.loop-s.s) 1 (omega arith) ∙ sym c.read.ensures in
    let bs = c.args.bs.now in
    more c.loop-s.s (fits_at bs) c.loop-s.invariant (rw (status) (le-leb _ 3 c.if-read-gt3.false))

pub returns : goal.returns
unfolding statuses_fit
returns c = let e : file_n c.args.bs.now ≡ c.loop-s.s = omega arith in
    rw e (sym c.loop-s.invariant)
