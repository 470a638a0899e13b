-- `over_counts::first_for` meets its contract. Assumes nothing.
use Rattle.std.proofs.Common.{rules, tests}
use Rattle.std.proofs.lemmas.Iterator.{YieldsList-from_slice, IsFirst-from_position}
use Rattle.over_counts.proofs.First.{searched, For, Other}
use Rattle.over_counts.proofs.first_for.Goals as goal

pub returns : goal.returns
returns c =
    let xs = c.args.waiting.now in
    let i = c.args.i in
    searched xs i c.position.result
    (IsFirst-from_position _ _ c.position.result (For xs i) (Other xs i) c.position.ensures.ran (YieldsList-from_slice xs cc)
    (λ x q k. search (rules, tests)) (λ x q k. search (rules, tests)))
