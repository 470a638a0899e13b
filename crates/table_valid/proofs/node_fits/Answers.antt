-- `table_valid::node_fits` meets its contract: each test by its callee. Assumes nothing.
use Prim.Native.Nat.{◌^◌, ◌<◌}
use native.Mathlib.Omega.{arith}
use Rattle.rules.specs.Fits.{node_fits}
use Rattle.table_valid.proofs.Nodes.{part-others}
use Rattle.table_valid.proofs.node_fits.Goals as goal

pub returns : goal.returns
unfolding node_fits
returns c = let words : (c.args.v.probing < 2 ^ 64) × (c.args.v.failed < 2 ^ 64) = (omega arith, omega arith) in
    let a = c.args in
    rw (
      c.is_part-2.ensures,
      c.is_part.ensures,
      c.leaf_fits.ensures,
      c.sides_of.ensures,
      c.has-3.ensures,
      c.has-2.ensures,
      c.has.ensures,
      c.removed-others.ensures,
      a.all.all,
      part-others a.all.ring a.i a.v.probing (words).0,
      part-others a.all.ring a.i a.v.failed (words).1,
    )
