-- `pool::alike` meets its contract: equality goes field by field, and the hops are equal already. Assumes nothing.
use mathlib.Core.Path.{◌≡◌, refl, ◌∙◌}
use mathlib.Core.Bool.{Bool, true, false, ◌&&◌}
use borrow.Author.Tests.{eq-eqb}
use lib.Dec.{eqb}
use Rattle.marks.specs.Marks.{all_to}
use Rattle.rules.specs.Mail.{alike}
use Rattle.pool.proofs.alike.Goals as goal

-- the same nine tests, the first two in the other order
row : (d k w f o r l i e : Bool)
    → (k && (d && (w && (f && (o && (r && (l && (i && e)))))))) ≡ ((((((((d && k) && w) && f) && o) && r) && l) && i) && e)
row false false w f o r l i e = refl
row false true w f o r l i e = refl
row true false w f o r l i e = refl
row true true false f o r l i e = refl
row true true true false o r l i e = refl
row true true true true false r l i e = refl
row true true true true true false l i e = refl
row true true true true true true false i e = refl
row true true true true true true true i e = refl

pub returns : goal.returns
unfolding alike all_to
returns c = let a = c.args.a in
    let b = c.args.b in
    let same = eq-eqb b.hops b.hops refl in
    c.eq.ensures ∙ rw same (row (eqb a.dest b.dest) (eqb a.kind b.kind) (eqb a.word b.word) (eqb a.flag b.flag) (eqb a.owner b.owner)
    (eqb a.routing b.routing) (eqb a.left b.left) (eqb a.right b.right) (eqb a.failed b.failed))
