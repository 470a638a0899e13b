-- The answers. Assumes nothing.
use mathlib.Core.Path.{sym, ◌∙◌}
use native.Mathlib.Omega.{arith}
use Rattle.rules_laws.proofs.Steps.{walk-begin, walk-took, walk-passed, walk_looks, walk-full, walk_end}
use Rattle.leaf.proofs.first_along.Goals as goal
use Rattle.leaf.proofs.first_along.Goals.{then-looked, else-looked}

pub loop-d-init : goal.loop-d-init
loop-d-init c = walk-begin _ _ _ _ _ c.requires.0 c.requires.1

pub returns-then-got-l : goal.returns-then-got-l
returns-then-got-l c = walk-full _ _ _ _ _ c.requires.0 c.requires.1 c.loop-d.invariant (omega arith)

pub looked-requires : goal.looked-requires
looked-requires c = walk_looks _ _ _ _ _ c.requires.0 c.requires.1 _ _ c.along-s.ensures.0 c.along-s.ensures.1 c.loop-d.invariant (λ e. omega arith)

pub loop-d-preserved : goal.loop-d-preserved
loop-d-preserved c = let pre = c.requires in
    let at = c.along-s.ensures in
    let at-d = c.loop-d.invariant in
    let member = sym c.looked.ensures in
    elim c.if-looked.branch [
      | then-looked w ↦ rw (w.out-is, w.added-out.ensures, w.got-is)
          (walk-took _ _ _ _ _ pre.0 pre.1 _ _ at.0 at.1 at-d (λ e. omega arith) (member ∙ w.if-looked.true))
      | else-looked w ↦ rw (w.out-is, w.got-is) (walk-passed _ _ _ _ _ pre.0 pre.1 _ _ at.0 at.1 at-d (member ∙ w.if-looked.false))
    ]

pub returns : goal.returns
returns c = walk_end _ _ _ _ _ c.requires.0 c.requires.1 c.loop-d.invariant (omega arith)
