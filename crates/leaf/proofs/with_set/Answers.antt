-- `leaf::with_set` meets its contract: the nearest of a side are the first on its walk (side-walk-up, side-walk-down). Assumes nothing.
use mathlib.Core.Path.{◌≡◌}
use mathlib.Core.Bool.{true, false}
use mathlib.Core.List.{List}
use Prim.Native.Nat.{ℕ, ◌<◌}
use Rattle.marks.specs.Marks.{union}
use Rattle.rules.specs.declared.Ring.{Ring}
use Rattle.rules.specs.declared.Sides.{Sides}
use Rattle.rules.specs.InnerAsks.{Listed}
use Rattle.rules.specs.Closest.{closest}
use Rattle.rules.specs.Leaf.{leaf_with}
use Rattle.rules_laws.proofs.Steps.{side-walk-up, side-walk-down}
use Rattle.rules.specs.InnerSteps.{steps_of, other_than}
use Rattle.leaf.proofs.with_set.Goals as goal

module _ {g : Ring} {ids : List ℕ} (v : Listed g ids) (i : ℕ) (h : i < g.n) (s : Sides) (d l r : ℕ) where
  made : l ≡ closest (steps_of true g.n i) g.n g.l (other_than (union s.left d) i)
      → r ≡ closest (steps_of false g.n i) g.n g.l (other_than (union s.right d) i)
      → record { left = l; right = r } ≡ leaf_with g ids i s d
  unfolding leaf_with
  made p q = rw (p, q, side-walk-up v i h s.left d g.l, side-walk-down v i h s.right d g.l)

pub returns : goal.returns
returns c = made c.args.r.now.listed _ c.requires c.args.s c.args.d _ _
    (rw c.joined.ensures at c.first_along-left.ensures)
    (rw c.joined-2.ensures at c.first_along-right.ensures)
