-- `image_pool::keep` meets its contract: a probe is passed over, any other record comes to stand behind those that are kept. Assumes nothing.
use mathlib.Core.Path.{sym, ◌∙◌}
use native.Mathlib.Omega.{arith}
use Rattle.image_pool.proofs.Passes.{turn-passed, turn-kept}
use Rattle.image_pool.proofs.keep.Goals as goal

pub returns-then-is_probe_from : goal.returns-then-is_probe_from
returns-then-is_probe_from c = turn-passed _ _ _ _ _ _ c.read_message-m.ensures (sym c.is_probe_from.ensures ∙ c.if-is_probe_from.true)

pub returns : goal.returns
returns c = turn-kept _ _ _ _ _ _ c.read_message-m.ensures _ (omega arith) (omega arith) (sym c.is_probe_from.ensures ∙ c.if-is_probe_from.false)
    c.move_down.ensures
