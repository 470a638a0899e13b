-- `run_driver::action_in` meets its contract: three words. Assumes nothing.
use mathlib.Core.Path.{◌∙◌}
use Rattle.run_driver.proofs.Saying.{action-is}
use Rattle.run_driver.proofs.asked.action_in.Goals as goal

pub returns : goal.returns
returns c = c.action_of.ensures ∙ action-is _ c.read-action.ensures c.read-x.ensures c.read-y.ensures
