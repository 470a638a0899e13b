-- `run_driver::make_step` meets its contract: too short, or what the call wrote. Assumes nothing.
use native.Mathlib.Omega.{arith}
use Rattle.run_driver.proofs.Saying.{part-whole, step-short, step-says}
use Rattle.run_driver.proofs.steps.make_step.Goals as goal

pub returns-then-rest-lt24 : goal.returns-then-rest-lt24
returns-then-rest-lt24 c = step-short _ _ c.if-rest-lt24.true c.malformed.ensures

pub returns : goal.returns
returns c = let rest = c.args.rest.now in
    step-says rest _ (omega arith) c.read-action.ensures c.read-x.ensures c.read-y.ensures (part-whole rest 24) c.unpacked.ensures
    c.tarpudhriv_step.ensures.r c.tarpudhriv_step.ensures.left
