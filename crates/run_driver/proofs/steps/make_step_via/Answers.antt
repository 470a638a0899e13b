-- `run_driver::make_step_via` meets its contract: too short, or what the call wrote. Assumes nothing.
use native.Mathlib.Omega.{arith}
use Rattle.run_driver.proofs.Saying.{part-whole, step-via-short, step-via-says}
use Rattle.run_driver.proofs.steps.make_step_via.Goals as goal

pub returns-then-rest-lt24 : goal.returns-then-rest-lt24
returns-then-rest-lt24 c = step-via-short _ _ c.if-rest-lt24.true c.malformed-reply.ensures

pub returns : goal.returns
returns c = let rest = c.args.rest.now in
    step-via-says rest _ (omega arith) c.read-action.ensures c.read-x.ensures c.read-y.ensures (part-whole rest 24) c.unlettered.ensures
    c.tarpudhriv_step_via.ensures.r c.tarpudhriv_step_via.ensures.left
