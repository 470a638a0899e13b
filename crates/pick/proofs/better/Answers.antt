-- `pick::better` meets its contract: what was found before decides the definition's case. Assumes nothing.
use Rattle.marks.specs.Marks.{Found}
use Rattle.std.specs.Prelude.{Some}
use mathlib.Core.Path.{◌≡◌, sym, ◌∙◌, subst}
use mathlib.Core.Bool.{Bool, true, false}
use Prim.Native.Nat.{ℕ, ◌^◌, ◌<◌}
use Rattle.rules.specs.InnerAsks.{Below}
use Rattle.rules.specs.Pick.{ahead_of, better_of}
use Rattle.pick.proofs.better.Goals as goal

below : (f : Found) (b n : ℕ) → f ≡ Some b → Below f n → b < n
below f b n e h = subst (λ (g : Found). Below g n) e h

took : (ahead : ℕ → ℕ → Bool) (f : Found) (b s : ℕ) → f ≡ Some b → ahead s b ≡ true → Some s ≡ better_of ahead f s
took ahead f b s e h = rw (e, h)

kept : (ahead : ℕ → ℕ → Bool) (f : Found) (b s : ℕ) → f ≡ Some b → ahead s b ≡ false → Some b ≡ better_of ahead f s
kept ahead f b s e h = rw (e, h)

pub ahead-requires : goal.ahead-requires
ahead-requires c = (c.requires.0, c.requires.1, below _ _ 64 c.in-Some.is c.requires.2)

pub returns-then-ahead : goal.returns-then-ahead
returns-then-ahead c = let a = c.args in
    took (ahead_of a.w (2 ^ a.m) a.k a.ids.now) a.found c.in-Some.b a.s c.in-Some.is (sym c.ahead.ensures ∙ c.if-ahead.true)

pub returns-else-ahead : goal.returns-else-ahead
returns-else-ahead c = let a = c.args in
    kept (ahead_of a.w (2 ^ a.m) a.k a.ids.now) a.found c.in-Some.b a.s c.in-Some.is (sym c.ahead.ensures ∙ c.if-ahead.false)

pub returns-in-None : goal.returns-in-None
returns-in-None c = rw c.in-None.is
