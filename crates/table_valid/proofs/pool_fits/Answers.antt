-- The answers. Assumes nothing.
use Prim.Native.Nat.{ℕ, ◌-◌, ◌≤◌, ◌<◌}
use mathlib.Core.Path.{◌≡◌, refl, sym, ◌∙◌, ap, ap₂}
use mathlib.Core.Bool.{true, false}
use mathlib.Core.List.{List}
use native.Mathlib.Omega.{arith}
use borrow.Author.Tests.{le-leb, lt-leb}
use Rattle.marks.specs.Marks.{all_to}
use Rattle.marks.proofs.Laws.{fails}
use Rattle.marks.proofs.Laws.{more as All-more}
use Rattle.rules.specs.declared.Ring.{Ring}
use Rattle.rules.specs.declared.Pool.{Pool}
use Rattle.rules.specs.Mail.{alike, all_different}
use Rattle.rules.specs.Pool.{waiting}
use Rattle.table.specs.Valid.{messages_fit, pool_fits}
use Rattle.pool_laws.specs.InnerMix.{bucket_of}
use Rattle.pool_laws.proofs.Chain.{differ-none, differ-more, differ-all, differ-not, none, starts, onward, more}
use Rattle.table_valid.proofs.pool_fits.Invariants.{fits_at}
use Rattle.table_valid.proofs.pool_fits.Goals as goal

-- one that does not fit decides
one-fails : (g : Ring) (ids : List ℕ) (p : Pool) (k : ℕ) → p.count ≤ 256 → k < p.count → fits_at g ids p k ≡ false → false ≡ pool_fits g ids p
unfolding pool_fits messages_fit
one-fails g ids p k l h e = rw (le-leb p.count 256 l, fails p.count (fits_at g ids p) k h e)

-- where all fit, the third test decides
all_fit : (g : Ring) (ids : List ℕ) (p : Pool) (k : ℕ) → p.count ≤ 256 → p.count ≡ k → all_to k (fits_at g ids p) ≡ true
    → all_different (waiting p) ≡ pool_fits g ids p
unfolding pool_fits messages_fit
all_fit g ids p k l e f = rw (le-leb p.count 256 l, ap (λ (i : ℕ). all_to i (fits_at g ids p)) e ∙ f)

pub returns-then-n-gt256 : goal.returns-then-n-gt256
unfolding pool_fits
returns-then-n-gt256 g c = let long : 256 < (g.W.Waiting.pool c.args.p.now).count = omega (arith, c.count-n.ensures) in
    rw (lt-leb (g.W.Waiting.pool c.args.p.now).count 256 long)

pub loop-k-init : goal.loop-k-init
unfolding all_to
loop-k-init g c = refl

pub returns-then-not-place_fits : goal.returns-then-not-place_fits
returns-then-not-place_fits g c = let a = c.args in
    let n = c.count-n.ensures in
    one-fails a.c.now.roster.ring a.c.now.roster.ids (g.W.Waiting.pool a.p.now) c.loop-k.k (omega (arith, n)) (omega (arith, n))
    (rw c.at.ensures at (sym c.place_fits.ensures ∙ c.if-not-place_fits.true))

pub loop-k-preserved : goal.loop-k-preserved
loop-k-preserved g c = let a = c.args in
    All-more c.loop-k.k (fits_at a.c.now.roster.ring a.c.now.roster.ids (g.W.Waiting.pool a.p.now)) c.loop-k.invariant
    (rw c.at.ensures at (sym c.place_fits.ensures ∙ c.if-not-place_fits.false))

pub loop-j-init : goal.loop-j-init
loop-j-init g c = (none _ _ _ refl refl, differ-none _)

pub chain-init : goal.chain-init
chain-init g c =
    starts _ _ c.bucket-h.result _ (c.bucket-h.ensures ∙ ap bucket_of c.at-m.ensures) (c.loop-j.invariant.0.head c.bucket-h.result (omega arith))

pub chain-preserved : goal.chain-preserved
chain-preserved g c = let w = c.chain.invariant.low in
    let other = sym (c.alike.ensures ∙ ap₂ alike c.at-in-chain.ensures c.at-m.ensures) ∙ c.if-alike.false in
    onward _ _ _ _ c.chain.invariant (omega arith) other (c.loop-j.invariant.0.link (c.chain.at - 1) (omega arith))

pub loop-j-preserved : goal.loop-j-preserved
loop-j-preserved g c = let k = c.loop-j in
    let b = c.bucket-h in (
      more _ _ _ _ k.invariant.0 (omega arith) b.result (b.ensures ∙ ap bucket_of c.at-m.ensures) (omega arith),
      differ-more _ _ _ k.invariant.1 c.chain.invariant (omega arith),
    )

pub returns-then-alike : goal.returns-then-alike
returns-then-alike g c = let n = c.count-n.ensures in
    let a = c.args in
    let low : (g.W.Waiting.pool a.p.now).count ≤ 256 = omega (arith, n) in
    let w = c.chain.invariant.low in
    let same = sym (c.alike.ensures ∙ ap₂ alike c.at-in-chain.ensures c.at-m.ensures) ∙ c.if-alike.true in
    sym (differ-not _ _ (c.chain.at - 1) c.loop-j.j c.requires low (omega arith) (omega (arith, n)) same)
    ∙ all_fit a.c.now.roster.ring a.c.now.roster.ids (g.W.Waiting.pool a.p.now) c.loop-k.k low (omega (arith, n)) c.loop-k.invariant

pub returns : goal.returns
returns g c = let n = c.count-n.ensures in
    let a = c.args in
    let low : (g.W.Waiting.pool a.p.now).count ≤ 256 = omega (arith, n) in
    sym (differ-all _ _ _ c.requires low (omega (arith, n)) c.loop-j.invariant.1)
    ∙ all_fit a.c.now.roster.ring a.c.now.roster.ids (g.W.Waiting.pool a.p.now) c.loop-k.k low (omega (arith, n)) c.loop-k.invariant
