-- `face_dist::all_inside` meets its contract: each is below 2^m, and m is from 2 to 32. Assumes nothing.
use Prim.Native.Nat.{◌^◌}
use lib.Dec.{ltb}
use Rattle.std.proofs.Common.{rules, tests}
use Rattle.std.proofs.lemmas.Iterator.{YieldsList-from_slice}
use Rattle.std.proofs.lemmas.Iterator.Search.{all_from_yields_List}
use Rattle.face_dist.proofs.Laws.{all_with}
use Rattle.face_dist.proofs.all_inside.Goals as goal

pub returns : goal.returns
returns c =
    let all = all_from_yields_List (λ x. ltb x (2 ^ c.args.m)) _ _ c.all.result c.all.ensures.ran (YieldsList-from_slice c.args.xs.now cc) (λ x b q k. search (rules, tests)) in
    rw (all, c.wide.ensures) (all_with c.args.m c.args.xs.now)
