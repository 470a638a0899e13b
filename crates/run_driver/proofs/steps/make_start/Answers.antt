-- `run_driver::make_start` meets its contract: too short, no whole words, or what the start wrote. Assumes nothing.
use Rattle.std.proofs.Common.{arith}
use Rattle.run_driver.proofs.Saying.{start-short, start-odd, start-says}
use Rattle.run_driver.proofs.steps.make_start.Goals as goal

pub returns-then-rest-lt24 : goal.returns-then-rest-lt24
returns-then-rest-lt24 c = start-short _ _ c.if-rest-lt24.true c.malformed.ensures

pub returns-then-rest-ne0 : goal.returns-then-rest-ne0
returns-then-rest-ne0 c = start-odd _ _ (omega arith) c.if-rest-ne0.true c.malformed-then-rest-ne0.ensures

pub returns : goal.returns
returns c =
    start-says c.args.rest.now _ (omega arith) c.if-rest-ne0.false c.id_count-n.ensures c.ids_in-ids.ensures.1 c.start_of.ensures
