-- `table_valid::leaf_fits` meets its contract: each side by its callee. Assumes nothing.
use native.Mathlib.Omega.{arith}
use Rattle.rules.specs.Fits.{leaf_fits}
use Rattle.table_valid.proofs.Nodes.{part-side}
use Rattle.table_valid.proofs.leaf_fits.Goals as goal

pub returns : goal.returns
unfolding leaf_fits
returns c = let a = c.args in
    rw (
      c.side_fits-2.ensures,
      c.side_fits.ensures,
      c.removed-others.ensures,
      c.args.all.all,
      part-side a.all.ring a.owner a.s.left (omega arith),
      part-side a.all.ring a.owner a.s.right (omega arith),
    )
