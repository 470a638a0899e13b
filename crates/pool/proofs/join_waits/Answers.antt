-- The answers. Assumes nothing.
use mathlib.Core.Path.{sym, ◌∙◌}
use Rattle.std.proofs.Common.{rules, tests}
use Rattle.std.proofs.lemmas.Iterator.{YieldsList-from_slice}
use Rattle.std.proofs.lemmas.Iterator.Search.{any_from_yields_List}
use Rattle.pool_laws.proofs.Places.{join-some}
use Rattle.pool.proofs.join_waits.Goals as goal

pub returns : goal.returns
returns c = any_from_yields_List _ _ _ _ c.any.ensures.ran (YieldsList-from_slice c.args.waiting.now cc) (λ x b q k. search (rules, tests)) ∙ sym (join-some _ _)
