-- The answers. Assumes nothing.
use Rattle.std.specs.Prelude.{Some}
use mathlib.Core.Path.{◌≡◌, sym, ◌∙◌, subst}
use mathlib.Core.Bool.{Bool}
use Prim.Native.Nat.{ℕ}
use Rattle.marks.specs.Marks.{has, lowest_of, Found}
use Rattle.rules.specs.InnerAsks.{Below}
use Rattle.rules_laws.proofs.Best.{best-below, below-le}
use Rattle.pick.proofs.Laws.{Looked, look-begin, look-end, look-low, look-more, look-less}
use Rattle.pick.proofs.best.Goals as goal

found-low : (ahead : ℕ → ℕ → Bool) (set : ℕ) (found : Found) (rest : ℕ) → Looked ahead set found rest → Below found 64
found-low ahead set found rest k =
    below-le found k.upto 64 k.high (subst (λ (f : Found). Below f k.upto) (sym k.same) (best-below ahead (has set) k.upto))

pub loop-s-init : goal.loop-s-init
loop-s-init c = look-begin _ _ c.ranges.set.fits

pub better-found-requires : goal.better-found-requires
better-found-requires c = let taken : lowest_of c.loop-s.rest ≡ Some c.in-Some.s = sym c.lowest.ensures ∙ c.in-Some.is in
    let k = c.loop-s.invariant in
    (c.requires, look-low _ _ _ _ k _ (taken), found-low _ _ _ _ k)

pub loop-s-smaller : goal.loop-s-smaller
loop-s-smaller c = let taken : lowest_of c.loop-s.rest ≡ Some c.in-Some.s = sym c.lowest.ensures ∙ c.in-Some.is in
    let k = c.loop-s.invariant in
    rw c.removed-rest.ensures (look-less _ _ _ _ k _ (taken))

pub loop-s-preserved : goal.loop-s-preserved
loop-s-preserved c = let taken : lowest_of c.loop-s.rest ≡ Some c.in-Some.s = sym c.lowest.ensures ∙ c.in-Some.is in
    let k = c.loop-s.invariant in
    rw (c.removed-rest.ensures, c.better-found.ensures) (look-more _ _ _ _ k _ (taken))

pub returns : goal.returns
returns c = let k = c.loop-s.invariant in
    look-end _ _ _ _ k (sym c.lowest.ensures ∙ c.in_default.is)
