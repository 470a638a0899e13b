-- `run_driver::record_in` meets its contract: five words. Assumes nothing.
use Rattle.run_driver.specs.Requests.{record_in}
use Rattle.run_driver.proofs.asked.record_in.Goals as goal

pub returns : goal.returns
unfolding record_in
returns c = rw (
  c.field-runoff.ensures,
  c.read-4.ensures,
  c.field-evapotranspiration.ensures,
  c.read-3.ensures,
  c.field-rain.ensures,
  c.read-2.ensures,
  c.field-month.ensures,
  c.read.ensures,
  c.read-key.ensures,
)
